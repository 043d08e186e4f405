use Rattle.std.proofs.Common.{◌≡◌, ◌/◌, length}
use Rattle.pmem_lines.specs.Pmem.{words_of}
use Rattle.slab_morph.specs.SlabHeaders.{header_at}
use Rattle.slab_morph.proofs.UsedBlocks.{AreUsed}
use Rattle.slab_morph.proofs.unused.used_blocks.Given as goal

-- the old blocks before this place are gone through
abbrev pub invariant-loop-place : goal.invariant-loop-place
invariant-loop-place g l = record {
  size : length l.used ≡ 64;
  gone : AreUsed (header_at (words_of (g.P.Pmem.state l.p)) (l.slab / 16384)) (l.slab / 16384) l.state.old l.state.class l.state.reads_bits l.place l.used;
}
