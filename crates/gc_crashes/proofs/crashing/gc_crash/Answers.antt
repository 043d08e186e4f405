use Rattle.std.proofs.lemmas.Result.{IfOk-weaker, IfErr-weaker}
use Rattle.trace_text.specs.Grammar.{pool_of}
use Rattle.trace_runs.specs.Arenas.{header_for}
use Rattle.trace_runs.specs.Calls.{calls_of}
use Rattle.trace_crashes.specs.Crash.{left_of}
use Rattle.trace_crashes.proofs.Crashes.{IsCrash-by, IfTooFew-by}
use Rattle.gc_runs.specs.Arenas.{gc_formatted}
use Rattle.gc_crashes.specs.Crash.{gc}
use Rattle.gc_crashes.proofs.Runs.{run_of}
use Rattle.gc_crashes.proofs.crashing.gc_crash.Goals as goal

pub returns-clause-crashed : goal.returns-clause-crashed
returns-clause-crashed c =
    let header = header_for (pool_of c.args.trace.now) c.args.arena in
    IfOk-weaker _ _ _ (λ crashed. IsCrash-by _ _ (run_of header) _ c.args.event gc (gc_formatted header) c.args.seed (left_of crashed)) c.crash_of.ensures.crashed

pub returns-clause-fault : goal.returns-clause-fault
returns-clause-fault c =
    let header = header_for (pool_of c.args.trace.now) c.args.arena in
    IfErr-weaker _ _ _ (IfTooFew-by _ _ (run_of header) (calls_of c.args.arena c.args.trace.now.calls.items) c.args.event) c.crash_of.ensures.fault
