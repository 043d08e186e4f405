use Rattle.std.proofs.Common.{◌<◌, ◌/◌, ℕ}
use Rattle.pmem_lines.specs.Pmem.{words_of}
use Rattle.slab_morph.specs.SlabHeaders.{header_at}
use Rattle.slab_morph.specs.Fitness.{IsClearOfBits}
use Rattle.slab_morph.proofs.fitness.has_room.Given as goal

abbrev pub invariant-loop-j : goal.invariant-loop-j
invariant-loop-j g l = (j : ℕ) → j < l.j → ¬ (IsClearOfBits (header_at (words_of (g.P.Pmem.state l.p)) (l.slab / 16384)) (l.slab / 16384) l.own l.class j)
