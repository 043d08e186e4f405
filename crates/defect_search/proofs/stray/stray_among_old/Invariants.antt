use Rattle.defect_search.proofs.Common.{tables_of, IsLeastOf}
use Rattle.defect_search.specs.Stray.{IsStrayOld}
use Rattle.defect_search.proofs.stray.stray_among_old.Given as goal

abbrev pub invariant-loop-place : goal.invariant-loop-place
invariant-loop-place l = IsLeastOf (IsStrayOld (tables_of l.words) l.fn.slab.start l.place) l.least
