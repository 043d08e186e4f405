use Rattle.std.proofs.Common.{◌≤◌}
use Rattle.image_defects.specs.Count.{IsCount}
use Rattle.heap_map.specs.Cells.{IsFreeCell}
use Rattle.heap_map.specs.Scans.{AreRuns}
use Rattle.heap_map.proofs.runs.free_counts.Given as goal

abbrev pub invariant-loop-granule : goal.invariant-loop-granule
invariant-loop-granule l = record {
  free : IsCount (IsFreeCell l.cells) l.granule l.free;
  few : l.free ≤ l.granule;
  runs : AreRuns (IsFreeCell l.cells) l.granule l.runs;
}
