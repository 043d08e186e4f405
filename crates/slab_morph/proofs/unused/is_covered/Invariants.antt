use Rattle.std.proofs.Common.{◌≡◌, ◌<◌, ◌/◌, ℕ, true}
use Rattle.slab_morph.proofs.Common.{words_of, AreApart, slab_block}
use Rattle.slab_morph.specs.SlabHeaders.{header_at}
use Rattle.slab_morph.proofs.unused.is_covered.Given as goal

-- no live old block before this place overlaps
abbrev pub invariant-loop-place : goal.invariant-loop-place
invariant-loop-place g l = (place : ℕ) → place < l.place → (header_at (words_of (g.P.Pmem.state l.p)) (l.slab / 16384)).live place ≡ true →
    AreApart (slab_block (l.slab / 16384) l.state.old ((header_at (words_of (g.P.Pmem.state l.p)) (l.slab / 16384)).number place)) (slab_block (l.slab / 16384) l.state.class l.number)
