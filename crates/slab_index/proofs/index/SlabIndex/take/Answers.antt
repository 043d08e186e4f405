use Rattle.slab_index.proofs.Views.{block_if_available}
use Rattle.slab_index.proofs.index.SlabIndex.take.Goals as goal

pub turn-requires : goal.turn-requires
turn-requires c = block_if_available c.self.view_is c.self.invariant c.args.start c.args.number c.requires
