use Rattle.std.proofs.Common.{◌≡◌, not, drop, slice_index_or, true}
use Rattle.log_room.specs.Needless.{first_of}
use Rattle.log_room.proofs.census.first_spare.Given as goal

abbrev pub invariant-loop-chunk : goal.invariant-loop-chunk
invariant-loop-chunk l =
    first_of (λ chunk. not (slice_index_or l.needed chunk true)) l.active ≡ first_of (λ chunk. not (slice_index_or l.needed chunk true)) (drop l.chunk-index l.active)
