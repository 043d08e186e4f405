use Rattle.image_tables.specs.Tables.{tables_of}
use Rattle.defect_search.proofs.ClaimLists.{AreClaimsBelow}
use Rattle.defect_search.proofs.claims.claims_of.Given as goal

abbrev pub invariant-loop-root : goal.invariant-loop-root
invariant-loop-root l = AreClaimsBelow (tables_of l.words) l.root l.claims.items
