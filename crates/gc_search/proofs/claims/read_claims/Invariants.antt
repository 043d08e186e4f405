use Rattle.std.proofs.Common.{◌≤◌}
use Rattle.std.specs.Vec.{vec_capacity}
use Rattle.pool_layout.specs.Layout.{layout_of}
use Rattle.pool_layout.specs.Header.{version_in}
use Rattle.gc_check.specs.Heap.{gc_tables}
use Rattle.gc_search.proofs.ClaimLists.{AreClaimsBelow}
use Rattle.gc_search.proofs.claims.read_claims.Given as goal

abbrev pub invariant-loop-root : goal.invariant-loop-root
invariant-loop-root l = record { claims : AreClaimsBelow (gc_tables l.words) l.root l.claims.items; room : (layout_of (version_in l.words)).roots ≤ vec_capacity l.claims }
