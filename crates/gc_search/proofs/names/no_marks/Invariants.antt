use Rattle.std.proofs.Common.{◌≡◌, ℕ, length, false}
use Rattle.defect_search.specs.Roots.{mark_in}
use Rattle.gc_search.proofs.names.no_marks.Given as goal

abbrev pub invariant-loop-granule : goal.invariant-loop-granule
invariant-loop-granule l = record { size : length l.marks.items ≡ l._granule; none : (k : ℕ) → mark_in l.marks.items k ≡ false }
