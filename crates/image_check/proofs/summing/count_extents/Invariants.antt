use Rattle.std.proofs.Common.{◌≤◌}
use Rattle.image_tables.specs.Tables.{tables_of}
use Rattle.image_defects.specs.Count.{IsCount}
use Rattle.image_defects.specs.Summaries.{HasLarge, HasSlab}
use Rattle.image_check.proofs.summing.count_extents.Given as goal

abbrev pub invariant-loop-start : goal.invariant-loop-start
invariant-loop-start l = record {
  large : IsCount (HasLarge (tables_of l.words)) l.start l.counts.large;
  slabs : IsCount (HasSlab (tables_of l.words)) l.start l.counts.slabs;
  few_large : l.counts.large ≤ l.start;
  few_slabs : l.counts.slabs ≤ l.start;
}
