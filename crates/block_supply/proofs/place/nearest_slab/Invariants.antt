use Rattle.std.proofs.Common.{◌≡◌, ◌<◌, ◌≤◌, ◌-◌, ℕ, None}
use Rattle.slab_index.specs.SlabSet.{class_in}
use Rattle.block_supply.proofs.place.nearest_slab.Given as goal

-- no slab begins at the granules that were asked for
abbrev pub invariant-loop-back : goal.invariant-loop-back
invariant-loop-back l = (before : ℕ) → before < l.back → before ≤ l.granule → class_in l.slabs (l.granule - before) ≡ None
