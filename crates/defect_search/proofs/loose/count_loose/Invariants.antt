use Rattle.std.proofs.Common.{◌≤◌}
use Rattle.defect_search.proofs.Common.{tables_of, AreLoose}
use Rattle.defect_search.proofs.loose.count_loose.Given as goal

abbrev pub invariant-loop-start : goal.invariant-loop-start
invariant-loop-start l = record {
  counts : AreLoose (tables_of l.words) l.start l.loose;
  few_large : l.loose.large ≤ l.start;
  few_empty : l.loose.empty ≤ l.start;
  few_morphing : l.loose.morphing ≤ l.start;
  few_done : l.loose.done ≤ l.start;
}
