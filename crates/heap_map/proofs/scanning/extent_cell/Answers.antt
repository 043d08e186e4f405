use Rattle.std.proofs.Common.{◌∙◌, sym, arith}
use Rattle.image_tables.specs.Tables.{tables_of}
use Rattle.image_tables.proofs.Tables.{slab_table}
use Rattle.heap_check.proofs.Geometry.{granules_at-large}
use Rattle.heap_map.proofs.scanning.extent_cell.Goals as goal

pub slab_cell-requires-clause-slab : goal.slab_cell-requires-clause-slab
slab_cell-requires-clause-slab c = slab_table c.args.words.now c.args.start ∙ sym (c.is_slab.ensures c.args.words.now c.requires.reading.reads) ∙ c.if-is_slab.true

pub large_cell-requires-clause-large : goal.large_cell-requires-clause-large
large_cell-requires-clause-large c =
    let none = slab_table c.args.words.now c.args.start ∙ sym (c.is_slab.ensures c.args.words.now c.requires.reading.reads) ∙ c.if-is_slab.false in
    omega (arith, granules_at-large (tables_of c.args.words.now) c.args.start none, c.requires.live)
