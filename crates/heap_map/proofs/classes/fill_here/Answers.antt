use Rattle.heap_map.proofs.SlabFills.{fill_there, no_fill_there}
use Rattle.heap_map.proofs.classes.fill_here.Goals as goal

pub returns-then-fill-granule : goal.returns-then-fill-granule
returns-then-fill-granule c = no_fill_there c.args.words.now c.args.granule c.args.fill c.requires.sound c.requires.kind c.if-fill-granule.true

pub returns : goal.returns
returns c = fill_there c.args.words.now c.args.granule c.args.fill c.requires.sound c.requires.kind c.if-fill-granule.false
