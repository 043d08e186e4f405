use Rattle.std.proofs.Common.{◌≡◌, ◌<◌, ◌/◌, ℕ, false}
use Rattle.pmem_lines.specs.Pmem.{words_of}
use Rattle.slab_morph.specs.SlabHeaders.{header_at}
use Rattle.slab_morph.proofs.held.has_live.Given as goal

abbrev pub invariant-loop-place : goal.invariant-loop-place
invariant-loop-place g l = (place : ℕ) → place < l.place → (header_at (words_of (g.P.Pmem.state l.p)) (l.slab / 16384)).live place ≡ false
