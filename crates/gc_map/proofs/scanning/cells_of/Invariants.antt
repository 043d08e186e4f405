use Rattle.heap_map.specs.Scans.{IsScan, AreCellsBelow}
use Rattle.gc_map.specs.GcRules.{gc_rules}
use Rattle.gc_map.proofs.scanning.cells_of.Given as goal

abbrev pub invariant-loop-granule : goal.invariant-loop-granule
invariant-loop-granule l = record {
  scan : IsScan gc_rules l.words l.granule l.scan;
  cells : AreCellsBelow gc_rules l.words l.granule l.cells.items;
}
