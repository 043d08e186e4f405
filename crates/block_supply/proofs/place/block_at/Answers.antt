use Rattle.std.proofs.Common.{◌∙◌, arith}
use Rattle.block_supply.proofs.Found.{start_found, none_found, block_found, base_below}
use Rattle.block_supply.proofs.place.block_at.Goals as goal
use Rattle.block_supply.proofs.place.block_at.Goals.{in-Some, in-None}

pub granule_at-requires : goal.granule_at-requires
granule_at-requires c = elim c.match-slab_with.branch [
  | in-Some w ↦
      let same = start_found c.requires.apart c.requires.class c.requires.block _ _ w.in-Some.ensures in
      let few = c.requires.few _ _ w.in-Some.ensures.slab in
      omega (arith, w.start-is, few)
  | in-None w ↦ absurd (none_found c.requires.apart c.requires.class c.requires.block w.in-None.ensures)
]

pub overflow_sub-result : goal.overflow_sub-result
overflow_sub-result c = elim c.match-slab_with.branch [
  | in-Some w ↦
      let same = start_found c.requires.apart c.requires.class c.requires.block _ _ w.in-Some.ensures in
      base_below c.requires.apart c.requires.class c.requires.block c.match-slab_with.start c.blocks_at.result (w.start-is ∙ same) (omega (arith, c.blocks_at.ensures, c.granule_at.ensures))
  | in-None w ↦ absurd (none_found c.requires.apart c.requires.class c.requires.block w.in-None.ensures)
]

pub returns : goal.returns
returns c = elim c.match-slab_with.branch [
  | in-Some w ↦
      let same = start_found c.requires.apart c.requires.class c.requires.block _ _ w.in-Some.ensures in
      block_found c.requires.apart c.requires.class c.requires.block c.match-slab_with.start c.blocks_at.result c.size_of_class.result (w.start-is ∙ same) (omega (arith, c.blocks_at.ensures, c.granule_at.ensures)) c.size_of_class.ensures.size
  | in-None w ↦ absurd (none_found c.requires.apart c.requires.class c.requires.block w.in-None.ensures)
]
