use Rattle.heap_map.proofs.SlabFills.{no_fill_of_kind}
use Rattle.heap_map.proofs.classes.fill_of_kind.Goals as goal

pub returns-in_default : goal.returns-in_default
returns-in_default c = no_fill_of_kind c.args.words.now c.args.granule c.args.kind c.requires.sound c.requires.kind c.in_default.not-Slab
