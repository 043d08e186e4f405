use Rattle.std.proofs.Common.{◌≤◌}
use Rattle.image_defects.specs.Count.{IsCount}
use Rattle.image_defects.specs.Summaries.{HasRoot}
use Rattle.gc_check.specs.Heap.{gc_tables}
use Rattle.gc_map.proofs.summary.count_roots.Given as goal

abbrev pub invariant-loop-root : goal.invariant-loop-root
invariant-loop-root l = record { count : IsCount (HasRoot (gc_tables l.words)) l.root l.count; few : l.count ≤ l.root }
