use Rattle.std.proofs.Common.{◌≡◌, ◌≤◌, length, take}
use Rattle.trace_runs.specs.Calls.{calls_of}
use Rattle.serve_runs.proofs.clerk.calls_for.Given as goal

abbrev pub invariant-loop-call : goal.invariant-loop-call
invariant-loop-call l = (l.count ≡ length (calls_of l.arena (take l.call-index l.calls))) × (l.count ≤ l.call-index)
