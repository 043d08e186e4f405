use Rattle.std.proofs.Common.{◌∙◌, sym, arith}
use Rattle.heap_map.proofs.Extents.{scan_begins, scan_goes}
use Rattle.gc_map.specs.GcRules.{gc_rules}
use Rattle.gc_map.proofs.Premises.{few_granules}
use Rattle.gc_map.proofs.Slabs.{gc_granules}
use Rattle.gc_map.proofs.scanning.step.Goals as goal

pub returns-then-granules-eq0 : goal.returns-then-granules-eq0
returns-then-granules-eq0 c =
    let is = c.granules_at-granules.ensures c.args.words.now c.requires.reading.image.book.reads ∙ sym (gc_granules c.args.words.now c.args.granule) in
    scan_goes gc_rules c.args.words.now c.requires.reading.image.sound.sound.extents c.args.granule c.args.scan c.requires.scan (sym is ∙ c.if-granules-eq0.true)

pub extent_cell-requires-clause-live : goal.extent_cell-requires-clause-live
extent_cell-requires-clause-live c =
    let is = c.granules_at-granules.ensures c.args.words.now c.requires.reading.image.book.reads ∙ sym (gc_granules c.args.words.now c.args.granule) in
    omega (arith, is, c.if-granules-eq0.false)

pub overflow_add-result : goal.overflow_add-result
overflow_add-result c =
    let is = c.granules_at-granules.ensures c.args.words.now c.requires.reading.image.book.reads ∙ sym (gc_granules c.args.words.now c.args.granule) in
    omega (arith, is, (c.requires.reading.image.sound.sound.extents.starts c.args.granule (omega (arith, is, c.if-granules-eq0.false))).1, few_granules c.args.words.now c.requires.reading.image.sound)

pub returns : goal.returns
returns c =
    let is = c.granules_at-granules.ensures c.args.words.now c.requires.reading.image.book.reads ∙ sym (gc_granules c.args.words.now c.args.granule) in
    scan_begins gc_rules c.args.words.now c.requires.reading.image.sound.sound.extents c.args.granule c.args.scan c.extent_cell.result c.granules_at-granules.result c.requires.scan is (omega (arith, c.if-granules-eq0.false)) c.extent_cell.ensures
