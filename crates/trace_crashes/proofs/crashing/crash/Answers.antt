use Rattle.trace_text.specs.Grammar.{pool_of}
use Rattle.heap_check.specs.Image.{IsSteadyImage, IsSoundImage}
use Rattle.trace_crashes.specs.declared.leaving.Crashed.{Crashed}
use Rattle.std.proofs.lemmas.Result.{IfOk-weaker, IfErr-weaker}
use Rattle.trace_crashes.proofs.Common.{header_for, calls_of, formatted}
use Rattle.trace_crashes.specs.Crash.{log, left_of}
use Rattle.trace_crashes.proofs.Crashes.{IsCrash-by, IfTooFew-by}
use Rattle.trace_crashes.proofs.Runs.{run_of}
use Rattle.trace_crashes.proofs.crashing.crash.Goals as goal

pub returns-clause-crashed : goal.returns-clause-crashed
returns-clause-crashed c =
    let header = header_for (pool_of c.args.trace.now) c.args.arena in
    IfOk-weaker _ _ _ (λ crashed. IsCrash-by _ _ (run_of header) _ c.args.event log (formatted header) c.args.seed (left_of crashed)) c.crash_of.ensures.crashed

pub returns-clause-sound : goal.returns-clause-sound
returns-clause-sound c = IfOk-weaker _ (λ (crashed : Crashed). IsSteadyImage crashed.image.items) (λ (crashed : Crashed). IsSoundImage crashed.image.items) (λ crashed whole. record { formed = whole.formed; sound = whole.steady.sound }) c.crash_of.ensures.whole

pub returns-clause-fault : goal.returns-clause-fault
returns-clause-fault c =
    let header = header_for (pool_of c.args.trace.now) c.args.arena in
    IfErr-weaker _ _ _ (IfTooFew-by _ _ (run_of header) (calls_of c.args.arena c.args.trace.now.calls.items) c.args.event) c.crash_of.ensures.fault
