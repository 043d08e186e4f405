use Rattle.image_defects.specs.Least.{IsLeastOf}
use Rattle.gc_search.proofs.Sweeps.{IsPartnerBelow}
use Rattle.gc_search.proofs.shared.partner_of.Given as goal

abbrev pub invariant-loop-j : goal.invariant-loop-j
invariant-loop-j l = IsLeastOf (IsPartnerBelow l.sorted l.i l.j) l.found
