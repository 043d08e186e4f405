use Rattle.std.proofs.Common.{◌≡◌, length, take}
use Rattle.trace_runs.specs.Calls.{calls_of}
use Rattle.gc_runs.proofs.telling.count_calls.Given as goal

abbrev pub invariant-loop-call : goal.invariant-loop-call
invariant-loop-call l = l.many ≡ length (calls_of l.arena (take l.call-index l.calls))
