use Rattle.std.proofs.Common.{◌≡◌, ◌≤◌, length, take}
use Rattle.log_room.specs.Chunks.{without}
use Rattle.log_room.proofs.chunks.without.Given as goal

abbrev pub invariant-loop-other : goal.invariant-loop-other
invariant-loop-other l = record {
  kept : l.kept.items ≡ without l.chunk (take l.other-index l.chunks);
  few : length l.kept.items ≤ l.other-index;
}
