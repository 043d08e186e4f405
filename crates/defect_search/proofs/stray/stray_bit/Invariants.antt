use Rattle.defect_search.proofs.Common.{tables_of, IsLeastOf}
use Rattle.defect_search.proofs.Strays.{IsStrayAmong}
use Rattle.defect_search.proofs.stray.stray_bit.Given as goal

abbrev pub invariant-loop-i : goal.invariant-loop-i
invariant-loop-i l = IsLeastOf (IsStrayAmong (tables_of l.words) l.slabs l.i) l.least
