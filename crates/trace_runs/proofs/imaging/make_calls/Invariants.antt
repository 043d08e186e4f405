use Rattle.std.proofs.Common.{take}
use Rattle.trace_runs.specs.Calls.{calls_of, HasMadeAll}
use Rattle.trace_runs.proofs.imaging.make_calls.Given as goal

abbrev pub invariant-loop-call : goal.invariant-loop-call
invariant-loop-call g l = HasMadeAll l.fn.made l.made (calls_of l.arena (take l.call-index l.calls))
