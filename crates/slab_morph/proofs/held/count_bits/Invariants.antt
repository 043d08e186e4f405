use Rattle.std.proofs.Common.{◌≡◌, ◌≤◌, ◌/◌, length}
use Rattle.slab_morph.proofs.Common.{words_of, numbers_below}
use Rattle.slab_morph.specs.SlabHeaders.{header_at}
use Rattle.slab_morph.proofs.held.count_bits.Given as goal

abbrev pub invariant-loop-i : goal.invariant-loop-i
invariant-loop-i g l = record {
  few : l.count ≤ l.i;
  count : l.count ≡ length (numbers_below (header_at (words_of (g.P.Pmem.state l.p)) (l.slab / 16384)).bit l.i);
}
