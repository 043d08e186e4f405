use Rattle.std.proofs.Common.{◌≡◌, ℕ, vec_len, None}
use Rattle.book_log.specs.Table.{extent_in}
use Rattle.book_log.proofs.live.no_extents.Given as goal

abbrev pub invariant-loop-granule : goal.invariant-loop-granule
invariant-loop-granule l =
    record {
      count : vec_len l.live ≡ l._granule;
      none : (start : ℕ) → extent_in l.live.items start ≡ None;
    }
