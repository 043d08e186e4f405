use Rattle.heap_map.proofs.Extents.{cells_more}
use Rattle.gc_map.specs.GcRules.{gc_rules}
use Rattle.gc_map.proofs.scanning.cells_of.Goals as goal

pub loop-granule-preserved : goal.loop-granule-preserved
loop-granule-preserved c = record {
  scan = c.step-scan.ensures;
  cells = cells_more gc_rules c.args.words.now c.loop-granule.granule c.loop-granule.cells.items c.push.new.self.items c.cell_of.result c.loop-granule.invariant.cells c.cell_of.ensures c.in_ok-push.ensures.items;
}
