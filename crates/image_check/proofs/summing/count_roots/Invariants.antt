use Rattle.std.proofs.Common.{◌≤◌}
use Rattle.image_tables.specs.Tables.{tables_of}
use Rattle.image_defects.specs.Count.{IsCount}
use Rattle.image_defects.specs.Summaries.{HasRoot}
use Rattle.image_check.proofs.summing.count_roots.Given as goal

abbrev pub invariant-loop-root : goal.invariant-loop-root
invariant-loop-root l = record { count : IsCount (HasRoot (tables_of l.words)) l.root l.count; few : l.count ≤ l.root }
