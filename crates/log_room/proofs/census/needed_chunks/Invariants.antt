use Rattle.std.proofs.Common.{◌≡◌, ℕ, ◌<◌, not, slice_index_or, true, length}
use Rattle.log_room.specs.Census.{slot_at, all_spare}
use Rattle.log_room.proofs.census.needed_chunks.Given as goal

abbrev pub invariant-loop-start : goal.invariant-loop-start
invariant-loop-start l = record {
  needed : (chunk : ℕ) → chunk < 16 → slice_index_or l.needed chunk true ≡ not (all_spare (slot_at l.slots) chunk l.start);
  size : length l.needed ≡ 16;
}
