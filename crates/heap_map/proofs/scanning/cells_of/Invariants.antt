use Rattle.heap_map.specs.LogRules.{log_rules}
use Rattle.heap_map.specs.Scans.{IsScan, AreCellsBelow}
use Rattle.heap_map.proofs.scanning.cells_of.Given as goal

abbrev pub invariant-loop-granule : goal.invariant-loop-granule
invariant-loop-granule l = record {
  scan : IsScan log_rules l.words l.granule l.scan;
  cells : AreCellsBelow log_rules l.words l.granule l.cells.items;
}
