use Rattle.std.proofs.Common.{◌≤◌}
use Rattle.image_defects.specs.Count.{IsCount}
use Rattle.gc_check.specs.Heap.{gc_tables}
use Rattle.heap_map.specs.Facts.{IsOfClass}
use Rattle.gc_map.proofs.classes.slabs_of.Given as goal

abbrev pub invariant-loop-start : goal.invariant-loop-start
invariant-loop-start l = record { count : IsCount (IsOfClass (gc_tables l.words) l.class) l.start l.count; few : l.count ≤ l.start }
