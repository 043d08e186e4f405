use Rattle.std.proofs.Common.{◌∙◌, sym, arith}
use Rattle.heap_check.proofs.Geometry.{granules_at-large}
use Rattle.gc_check.specs.Heap.{gc_tables}
use Rattle.gc_search.proofs.Standing.{gc_slab}
use Rattle.gc_map.proofs.scanning.extent_cell.Goals as goal

pub slab_cell-requires-clause-slab : goal.slab_cell-requires-clause-slab
slab_cell-requires-clause-slab c = gc_slab c.args.words.now c.args.start ∙ sym (c.is_slab.ensures c.args.words.now c.requires.reading.image.book.reads) ∙ c.if-is_slab.true

pub large_cell-requires-clause-large : goal.large_cell-requires-clause-large
large_cell-requires-clause-large c =
    let none = gc_slab c.args.words.now c.args.start ∙ sym (c.is_slab.ensures c.args.words.now c.requires.reading.image.book.reads) ∙ c.if-is_slab.false in
    omega (arith, granules_at-large (gc_tables c.args.words.now) c.args.start none, c.requires.live)
