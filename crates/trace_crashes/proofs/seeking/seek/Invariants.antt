use Rattle.std.proofs.Common.{◌≡◌, ◌+◌, ◌≤◌, ℕ, List}
use Rattle.trace_crashes.proofs.UnderWay.{Seeking}
use Rattle.trace_crashes.proofs.seeking.seek.Given as goal

abbrev pub invariant-loop-call : goal.invariant-loop-call
invariant-loop-call g l = record {
  seeking : (words : List ℕ) → Seeking g.row.A.Denot g.A.SimArena.step g.A.SimArena.variant words l.arena l.calls l.event l.fn.made l.made l.call-index l.number l.left l.events;
  sum : l.events + l.left ≡ l.event;
  few : l.number ≤ l.call-index;
}
