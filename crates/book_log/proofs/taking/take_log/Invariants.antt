use Rattle.std.proofs.Common.{◌≡◌, ℕ, take, flat_map, None}
use Rattle.book_log.proofs.Common.{chunk_log, extent_behind}
use Rattle.book_log.specs.Table.{extent_in}
use Rattle.book_log.proofs.taking.take_log.Given as goal

abbrev pub invariant-loop-chunk : goal.invariant-loop-chunk
invariant-loop-chunk l =
    (start : ℕ) → extent_in l.live start ≡ extent_behind (flat_map (chunk_log l.version l.words) (take l.chunk-index l.chunks)) start None
