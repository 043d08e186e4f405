-- Lists of claims: which blocks they name, by address, and when they are all those of an image.
use Rattle.std.specs.Prelude.{◌≡◌, ℕ, ◌<◌, ◌≤◌, List, length, slice_index_or}
use Rattle.std.specs.List.Sorted.{IsPermutation}
use Rattle.image_tables.specs.Tables.{Tables}
use Rattle.heap_model.specs.Machine.{Range}
use Rattle.heap_check.specs.Heap.{IsClaim}
use Rattle.image_defects.specs.Blocks.{IsRooted}
use Rattle.defect_search.specs.declared.claim.Claim.{Claim}

-- the claim at an index
abbrev pub no_claim : Claim
no_claim = record { root = 0; at = 0; size = 0 }

abbrev pub claim_in : List Claim → ℕ → Claim
claim_in claims i = slice_index_or claims i no_claim

-- its block
abbrev pub range_of : Claim → Range
range_of claim = record { at = claim.at; size = claim.size }

-- the list has the claims of an image, by rising root
pub record AreClaims (t : Tables) (claims : List Claim) : Type 0 where
  pub each : (i : ℕ) → i < length claims → IsClaim t (claim_in claims i).root (range_of (claim_in claims i))
  pub all : (root : ℕ) (range : Range) → IsClaim t root range → (i : ℕ) × (i < length claims) × ((claim_in claims i).root ≡ root) × (range_of (claim_in claims i) ≡ range)
  pub rising : (i j : ℕ) → i < j → j < length claims → (claim_in claims i).root < (claim_in claims j).root

-- the addresses rise
pub record IsRising (sorted : List Claim) : Type 0 where
  pub each : (i j : ℕ) → i ≤ j → j < length sorted → (claim_in sorted i).at ≤ (claim_in sorted j).at

-- the list has the same claims as another, by rising address
pub record IsByAddress (claims sorted : List Claim) : Type 0 where
  pub same : IsPermutation claims sorted
  pub rising : IsRising sorted

-- a claim of the list has this block
pub record HasBlock (claims : List Claim) (range : Range) : Type 0 where
  pub place : ℕ
  pub below : place < length claims
  pub here : range_of (claim_in claims place) ≡ range

-- the list has the blocks of the roots of an image, by rising address
pub record AreBlocks (t : Tables) (sorted : List Claim) : Type 0 where
  pub rising : IsRising sorted
  pub each : (range : Range) → HasBlock sorted range → IsRooted t range
  pub all : (range : Range) → IsRooted t range → HasBlock sorted range
