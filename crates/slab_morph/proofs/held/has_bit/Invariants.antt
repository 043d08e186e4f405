use Rattle.std.proofs.Common.{◌≡◌, ◌≤◌, ◌<◌, ◌/◌, ℕ, false}
use Rattle.pmem_lines.specs.Pmem.{words_of}
use Rattle.slab_morph.specs.SlabHeaders.{header_at}
use Rattle.slab_morph.proofs.held.has_bit.Given as goal

abbrev pub invariant-loop-i : goal.invariant-loop-i
invariant-loop-i g l = (i : ℕ) → l.from ≤ i → i < l.i → (header_at (words_of (g.P.Pmem.state l.p)) (l.slab / 16384)).bit i ≡ false
