use Rattle.std.proofs.Common.{◌≡◌, ◌<◌, ◌/◌, ℕ, true}
use Rattle.slab_morph.proofs.Common.{words_of, slab_block}
use Rattle.slab_morph.specs.SlabHeaders.{header_at}
use Rattle.slab_morph.proofs.old_blocks.old_place.Given as goal

-- none of the places before this one has such a block
abbrev pub invariant-loop-place : goal.invariant-loop-place
invariant-loop-place g l = let h = header_at (words_of (g.P.Pmem.state l.p)) (l.slab / 16384) in
    (place : ℕ) → place < l.place → ¬ ((h.live place ≡ true) × ((slab_block (l.slab / 16384) l.state.old (h.number place)).at ≡ l.at))
