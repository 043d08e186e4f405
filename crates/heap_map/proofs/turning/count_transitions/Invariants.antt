use Rattle.std.proofs.Common.{◌≤◌}
use Rattle.image_defects.specs.Count.{IsCount}
use Rattle.heap_map.specs.Cells.{IsTurningCell}
use Rattle.heap_map.proofs.turning.count_transitions.Given as goal

abbrev pub invariant-loop-granule : goal.invariant-loop-granule
invariant-loop-granule l = record { count : IsCount (IsTurningCell l.cells) l.granule l.count; few : l.count ≤ l.granule }
