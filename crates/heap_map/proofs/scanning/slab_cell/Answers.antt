use Rattle.std.proofs.Common.{◌∙◌, sym}
use Rattle.image_tables.proofs.Tables.{slab_table}
use Rattle.heap_map.proofs.Premises.{slabs_of}
use Rattle.heap_map.proofs.scanning.slab_cell.Goals as goal

pub read_slab-slab-requires-clause-at : goal.read_slab-slab-requires-clause-at
read_slab-slab-requires-clause-at c = (slabs_of c.args.words.now c.requires.reading.sound).at c.args.start (sym (slab_table c.args.words.now c.args.start) ∙ c.requires.slab)

pub read_slab-slab-requires-clause-good : goal.read_slab-slab-requires-clause-good
read_slab-slab-requires-clause-good c = (slabs_of c.args.words.now c.requires.reading.sound).good c.args.start (sym (slab_table c.args.words.now c.args.start) ∙ c.requires.slab)
