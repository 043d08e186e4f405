use Rattle.std.proofs.Common.{◌∙◌, sym, arith}
use Rattle.heap_map.specs.LogRules.{log_rules}
use Rattle.heap_map.proofs.Extents.{scan_begins, scan_goes}
use Rattle.heap_map.proofs.scanning.step.Goals as goal

pub returns-then-granules-eq0 : goal.returns-then-granules-eq0
returns-then-granules-eq0 c =
    let is = c.granules_at-granules.ensures c.args.words.now c.requires.reading.reads in
    scan_goes log_rules c.args.words.now c.requires.reading.sound.sound.extents c.args.granule c.args.scan c.requires.scan (sym is ∙ c.if-granules-eq0.true)

pub returns : goal.returns
returns c =
    let is = c.granules_at-granules.ensures c.args.words.now c.requires.reading.reads in
    scan_begins log_rules c.args.words.now c.requires.reading.sound.sound.extents c.args.granule c.args.scan c.extent_cell.result c.granules_at-granules.result c.requires.scan is (omega (arith, c.if-granules-eq0.false)) c.extent_cell.ensures
