use Rattle.std.proofs.Common.{◌≡◌, ◌-◌, ◌<◌, ◌≤◌, ℕ, false}
use Rattle.gc_check.specs.Heap.{gc_tables}
use Rattle.gc_map.proofs.places.slab_over.Given as goal

abbrev pub invariant-loop-back : goal.invariant-loop-back
invariant-loop-back l = (back : ℕ) → back < l.back → back ≤ l.granule → (gc_tables l.words).slab (l.granule - back) ≡ false
