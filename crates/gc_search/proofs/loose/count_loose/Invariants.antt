use Rattle.std.proofs.Common.{◌≤◌}
use Rattle.gc_check.specs.Heap.{gc_tables}
use Rattle.heap_check.specs.Sound.{IsLooseLarge, IsEmptySlab}
use Rattle.image_defects.specs.Count.{IsCount}
use Rattle.gc_search.proofs.loose.count_loose.Given as goal

abbrev pub invariant-loop-start : goal.invariant-loop-start
invariant-loop-start l = record {
  large : IsCount (IsLooseLarge (gc_tables l.words)) l.start l.count.large;
  empty : IsCount (IsEmptySlab (gc_tables l.words)) l.start l.count.empty;
  few_large : l.count.large ≤ l.start;
  few_empty : l.count.empty ≤ l.start;
}
