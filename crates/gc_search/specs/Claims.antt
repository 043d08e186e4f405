-- Lists of the blocks that the roots of an image have.
use Rattle.std.specs.Prelude.{◌≡◌, ℕ, ◌<◌, List, length, Some, None}
use Rattle.image_tables.specs.Tables.{Tables}
use Rattle.heap_model.specs.Machine.{Range}
use Rattle.defect_search.specs.declared.claim.Claim.{Claim}
use Rattle.defect_search.specs.Claims.{claim_in, range_of}
use Rattle.gc_check.specs.Heap.{gc_heap}

-- the root has no block
pub record HasNoBlock (t : Tables) (root : ℕ) : Type 0 where
  pub none : gc_heap t root ≡ None

-- the claim is the root's block
pub record IsBlockOf (t : Tables) (root : ℕ) (claim : Claim) : Type 0 where
  pub root_is : claim.root ≡ root
  pub block : gc_heap t root ≡ Some (range_of claim)

-- the list has the blocks of the roots of an image, each once
pub record AreGcClaims (t : Tables) (claims : List Claim) : Type 0 where
  pub each : (i : ℕ) → i < length claims → gc_heap t (claim_in claims i).root ≡ Some (range_of (claim_in claims i))
  pub all : (root : ℕ) (range : Range) → gc_heap t root ≡ Some range → (i : ℕ) × (i < length claims) × ((claim_in claims i).root ≡ root) × (range_of (claim_in claims i) ≡ range)
  pub once : (i j : ℕ) → i < length claims → j < length claims → (claim_in claims i).root ≡ (claim_in claims j).root → i ≡ j
