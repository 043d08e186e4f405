use Rattle.std.proofs.Common.{◌≡◌, take}
use Rattle.log_room.proofs.switching.all_of.Given as goal

abbrev pub invariant-loop-chunk : goal.invariant-loop-chunk
invariant-loop-chunk l = l.chunks.items ≡ take l.chunk-index l.active
