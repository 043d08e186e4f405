use Rattle.std.proofs.Common.{◌++◌, List, ap, subst, ◌∙◌}
use Rattle.pmem_lines.specs.Pmem.{words_of}
use Rattle.heap_model.specs.declared.block.Block.{Block}
use Rattle.trace_text.specs.declared.call.TraceCall.{TraceCall}
use Rattle.trace_text.specs.declared.call.PoolSize.{PoolSize}
use Rattle.trace_text.specs.Grammar.{pool_of}
use Rattle.trace_text.specs.Report.{arena_text}
use Rattle.trace_runs.specs.Arenas.{header_for}
use Rattle.trace_runs.specs.Calls.{calls_of}
use Rattle.trace_runs.proofs.Listing.{blocks_of-same}
use Rattle.gc_check.specs.State.{gc_blocks}
use Rattle.gc_heap.specs.Arena.{GcState}
use Rattle.gc_runs.specs.Arenas.{IsNewGcArena}
use Rattle.gc_runs.specs.Kept.{HasReportedGc}
use Rattle.gc_runs.proofs.Behind.{run_behind}
use Rattle.gc_runs.proofs.Made.{made_few}
use Rattle.gc_runs.proofs.telling.run_gc_calls.Goals as goal

pub returns-in-Ok : goal.returns-in-Ok
returns-in-Ok g c =
    let pool = pool_of c.args.trace.now in
    let header = header_for pool c.args.arena in
    let calls : List TraceCall = c.args.trace.now.calls.items in
    let first : GcState = c.in_ok-made.made in
    let new : IsNewGcArena header first = subst (λ (p : PoolSize). IsNewGcArena (header_for p c.args.arena) first) c.pool.ensures c.in_ok-made.ensures in
    let now : GcState = c.report_calls-told.new.made in
    let report : HasReportedGc first now (calls_of c.args.arena calls) c.args.arena c.args.text.now.items c.report_calls-told.new.text.items = subst (λ (cs : List TraceCall). HasReportedGc first now (calls_of c.args.arena cs) c.args.arena c.args.text.now.items c.report_calls-told.new.text.items) c.deref.ensures.value (rw c.in-Ok.is at c.report_calls-told.ensures) in
    let journal = report.journal in
    let behind = report.made.behind header new in
    let same = blocks_of-same (words_of now.device) (gc_blocks (words_of now.device)) behind.machine.block behind.state.blocks in
    record {
      run = record { journal = journal; machine = behind.machine; device = now.device };
      made = record { answers = report.made.answers; run = run_behind header journal now (made_few c.args.arena calls first now journal c.requires.few report.made) behind };
      told = report.told ∙ ap (λ (bs : List Block). c.args.text.now.items ++ arena_text c.args.arena journal bs) same;
      left = c.into_pmem-left.ensures.device;
    }
