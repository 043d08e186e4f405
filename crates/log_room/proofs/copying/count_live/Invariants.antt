use Rattle.std.proofs.Common.{◌≡◌, ◌+◌, ◌-◌, ◌≤◌, length}
use Rattle.log_room.proofs.Common.{live_at, live_words}
use Rattle.log_room.proofs.copying.count_live.Given as goal

abbrev pub invariant-loop-entry : goal.invariant-loop-entry
invariant-loop-entry l = record {
  whole : l.count + length (live_words (live_at l.log) l.from (l.log.granules - l.from)) ≡ length (live_words (live_at l.log) 0 l.log.granules);
  few : l.count ≤ l.from;
  below : l.from ≤ l.log.granules;
}

abbrev pub decreases-loop-entry : goal.decreases-loop-entry
decreases-loop-entry l = l.log.granules - l.from
