use Rattle.std.proofs.Common.{◌≤◌}
use Rattle.image_defects.specs.Count.{IsCount}
use Rattle.gc_check.specs.Heap.{gc_tables}
use Rattle.gc_map.specs.Slabs.{IsLiveOf}
use Rattle.gc_map.proofs.classes.count_live.Given as goal

abbrev pub invariant-loop-root : goal.invariant-loop-root
invariant-loop-root l = record { count : IsCount (IsLiveOf (gc_tables l.words) l.class) l.root l.count; few : l.count ≤ l.root }
