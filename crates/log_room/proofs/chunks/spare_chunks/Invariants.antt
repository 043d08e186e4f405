use Rattle.std.proofs.Common.{◌≡◌, take}
use Rattle.log_room.specs.Chunks.{chunks_from, left_by}
use Rattle.log_room.proofs.chunks.spare_chunks.Given as goal

abbrev pub invariant-loop-chunk : goal.invariant-loop-chunk
invariant-loop-chunk l = l.spare.items ≡ take l.count (left_by l.active (chunks_from 0 l.chunk-counter))
