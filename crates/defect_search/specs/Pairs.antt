-- Two claims whose blocks overlap.
use Rattle.std.specs.Prelude.{◌≡◌, ◌≢◌, ℕ, ◌+◌, ◌<◌, ◌≤◌, List, length}
use Rattle.defect_search.specs.declared.claim.Claim.{Claim}
use Rattle.image_defects.specs.declared.found.Pair.{Pair}
use Rattle.image_defects.specs.Least.{IsLeast, HasNone}
use Rattle.defect_search.specs.Claims.{claim_in, range_of}
use Rattle.image_defects.specs.Blocks.{DoOverlap}

-- two claims of different roots overlap
pub record DoClash (claims : List Claim) (i j : ℕ) : Type 0 where
  pub first : i < length claims
  pub second : j < length claims
  pub differ : (claim_in claims i).root ≢ (claim_in claims j).root
  pub overlap : DoOverlap (range_of (claim_in claims i)) (range_of (claim_in claims j))

-- each ends before the next begins
pub record AreSpread (claims : List Claim) : Type 0 where
  pub each : (k : ℕ) → k + 1 < length claims → (claim_in claims k).at + (claim_in claims k).size ≤ (claim_in claims (k + 1)).at

-- no two overlap
pub record AreAllApart (claims : List Claim) : Type 0 where
  pub none : (i j : ℕ) → ¬ (DoClash claims i j)

-- of the pairs that overlap the one with the lowest first index, and then the lowest second
pub record IsFirstClash (claims : List Claim) (i j : ℕ) : Type 0 where
  pub second : IsLeast (DoClash claims i) j
  pub first : (other : ℕ) → other < i → HasNone (DoClash claims other)

-- the roots of that pair
pub record IsFirstPair (claims : List Claim) (pair : Pair) : Type 0 where
  pub i : ℕ
  pub j : ℕ
  pub clash : IsFirstClash claims i j
  pub first : pair.first ≡ (claim_in claims i).root
  pub second : pair.second ≡ (claim_in claims j).root
