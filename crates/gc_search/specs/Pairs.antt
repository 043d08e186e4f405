-- Claims whose blocks overlap, in a list by rising address: which of them, and by their roots the first two.
use Rattle.std.specs.Prelude.{◌≡◌, ℕ, ◌+◌, ◌^◌, ◌<◌, ◌≤◌, List, length}
use Rattle.image_defects.specs.declared.found.Pair.{Pair}
use Rattle.image_defects.specs.Least.{HasNone, IsLeast}
use Rattle.defect_search.specs.declared.claim.Claim.{Claim}
use Rattle.defect_search.specs.Claims.{claim_in, IsRising}
use Rattle.defect_search.specs.Pairs.{DoClash}

-- the byte behind the block of the claim at an index
abbrev pub end_in : List Claim → ℕ → ℕ
end_in claims i = (claim_in claims i).at + (claim_in claims i).size

-- The claims lie by rising address, no root has two, and each has some bytes, and its end in 64 bits.
pub record AreInOrder (claims : List Claim) : Type 0 where
  pub rising : IsRising claims
  pub once : (i j : ℕ) → i < length claims → j < length claims → (claim_in claims i).root ≡ (claim_in claims j).root → i ≡ j
  pub some : (i : ℕ) → i < length claims → 0 < (claim_in claims i).size
  pub fits : (i : ℕ) → i < length claims → end_in claims i < 2 ^ 64

-- none of the first i blocks ends behind this byte, and where it is not the first byte of all one ends at it
pub record IsReach (claims : List Claim) (i reach : ℕ) : Type 0 where
  pub most : (j : ℕ) → j < i → end_in claims j ≤ reach
  pub met : 0 < reach → (j : ℕ) × (j < i) × (end_in claims j ≡ reach)

-- the block of the claim overlaps another
pub record IsClashing (claims : List Claim) (i : ℕ) : Type 0 where
  pub other : ℕ
  pub clash : DoClash claims i other

-- none of the first n does
pub record HasNoClashing (claims : List Claim) (n : ℕ) : Type 0 where
  pub none : (k : ℕ) → k < n → ¬ (IsClashing claims k)

-- it is that of the first n that do with the lowest root
pub record IsFirstClashing (claims : List Claim) (n i : ℕ) : Type 0 where
  pub below : i < n
  pub here : IsClashing claims i
  pub least : (k : ℕ) → k < n → IsClashing claims k → (claim_in claims i).root ≤ (claim_in claims k).root

-- the block of the root overlaps that of the claim
pub record IsPartner (claims : List Claim) (i root : ℕ) : Type 0 where
  pub j : ℕ
  pub clash : DoClash claims i j
  pub is : (claim_in claims j).root ≡ root

-- by root

-- the blocks of two roots of the list overlap
pub record DoShare (claims : List Claim) (root other : ℕ) : Type 0 where
  pub i : ℕ
  pub j : ℕ
  pub clash : DoClash claims i j
  pub first : (claim_in claims i).root ≡ root
  pub second : (claim_in claims j).root ≡ other

-- that of a root overlaps some other
pub record IsSharingIn (claims : List Claim) (root : ℕ) : Type 0 where
  pub other : ℕ
  pub shared : DoShare claims root other

-- no two do
abbrev pub HasNoSharing : List Claim → Type 0
HasNoSharing claims = HasNone (IsSharingIn claims)

-- of the pairs that overlap the one with the lowest first root, and then the lowest second
pub record IsFirstSharing (claims : List Claim) (pair : Pair) : Type 0 where
  pub first : IsLeast (IsSharingIn claims) pair.first
  pub second : IsLeast (DoShare claims pair.first) pair.second
