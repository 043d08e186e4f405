use Rattle.std.proofs.Common.{List, sym, subst}
use Rattle.pmem_lines.specs.Pmem.{PmemState}
use Rattle.arena_core.specs.Arena.{ArenaState}
use Rattle.trace_text.specs.declared.call.TraceCall.{TraceCall}
use Rattle.trace_text.specs.Grammar.{pool_of}
use Rattle.trace_text.specs.declared.call.PoolSize.{PoolSize}
use Rattle.trace_runs.specs.Arenas.{header_for, IsNewArena}
use Rattle.trace_runs.specs.Calls.{calls_of, HasMadeAll}
use Rattle.trace_runs.specs.Journals.{IsRunThrough}
use Rattle.trace_runs.proofs.Answers.{HasRun-made}
use Rattle.trace_runs.proofs.imaging.run_calls.Goals as goal

pub returns : goal.returns
returns g c =
    let header = header_for (pool_of c.args.trace.now) c.args.arena in
    let calls = c.args.trace.now.calls.items in
    let first : ArenaState = c.in_ok-made.made in
    let new : IsNewArena header first = subst (λ (p : PoolSize). IsNewArena (header_for p c.args.arena) first) c.pool.ensures c.in_ok-made.ensures in
    let now : ArenaState = c.make_calls.new.made in
    let made : HasMadeAll first now (calls_of c.args.arena calls) = subst (λ (cs : List TraceCall). HasMadeAll first now (calls_of c.args.arena cs)) c.deref.ensures.value c.make_calls.ensures in
    subst (λ (s : PmemState). IsRunThrough header (calls_of c.args.arena calls) s) (sym c.into_pmem.ensures.device)
    (record { journal = made.journal; machine = made.behind.machine; answers = made.answers; run = HasRun-made header calls c.args.arena first now new c.requires.few made })
