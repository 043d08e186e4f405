use Rattle.defect_search.proofs.Common.{tables_of, IsLeastOf}
use Rattle.defect_search.proofs.Strays.{IsStrayInWords}
use Rattle.defect_search.proofs.stray.stray_among_bits.Given as goal

abbrev pub invariant-loop-word : goal.invariant-loop-word
invariant-loop-word l = IsLeastOf (IsStrayInWords (tables_of l.words) l.fn.slab.start l.word) l.least
