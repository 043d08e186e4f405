use Rattle.std.proofs.Common.{◌≤◌}
use Rattle.image_defects.specs.Count.{IsCount}
use Rattle.gc_check.specs.Heap.{gc_tables}
use Rattle.image_defects.specs.Summaries.{HasLarge}
use Rattle.gc_map.proofs.summary.count_large.Given as goal

abbrev pub invariant-loop-start : goal.invariant-loop-start
invariant-loop-start l = record { count : IsCount (HasLarge (gc_tables l.words)) l.start l.count; few : l.count ≤ l.start }
