-- The claim of a root, as it is read.
use Rattle.std.specs.Prelude.{◌≡◌, ℕ}
use Rattle.image_tables.specs.Tables.{Tables}
use Rattle.heap_check.specs.Heap.{claim_at, IsClaim}
use Rattle.defect_search.specs.declared.claim.Claim.{Claim}
use Rattle.defect_search.specs.Claims.{range_of}

-- the root has no block
pub record HasNoClaim (t : Tables) (root : ℕ) : Type 0 where
  pub none : claim_at t root ≡ 0

-- the claim is the root's
pub record IsClaimOf (t : Tables) (root : ℕ) (claim : Claim) : Type 0 where
  pub root_is : claim.root ≡ root
  pub claim_is : IsClaim t root (range_of claim)
