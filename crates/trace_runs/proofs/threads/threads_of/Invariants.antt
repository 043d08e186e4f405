use Rattle.std.proofs.Common.{◌≡◌, ◌≤◌, take}
use Rattle.trace_runs.specs.Threads.{seats_for, AllBy}
use Rattle.trace_runs.proofs.threads.threads_of.Given as goal

abbrev pub invariant-loop-call : goal.invariant-loop-call
invariant-loop-call l = record {
  seats : l.seats ≡ seats_for (take l.call-index l.calls);
  some : 1 ≤ l.seats;
  few : l.seats ≤ 64;
  by : AllBy l.seats (take l.call-index l.calls);
}
