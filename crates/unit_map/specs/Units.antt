-- The units of an arena, 16 bytes each and 1024 to a granule, and which of them are used.
use Rattle.std.specs.Prelude.{◌≡◌, ◌⊎◌, ℕ, ◌+◌, ◌<◌, ◌≤◌, Bool, false, List, slice_index_or}

-- a mark for each unit of so many granules, one after another
pub record Units : Type 0 where
  pub granules : ℕ
  pub marks : List Bool

-- unit k is used
unfoldable pub is_used : Units → ℕ → Bool
is_used units k = slice_index_or units.marks k false

-- so many units from one on were marked (`on`) or cleared, and all others are as they were
pub record IsMarked (old : Units) (from count : ℕ) (on : Bool) (new : Units) : Type 0 where
  pub granules : new.granules ≡ old.granules
  pub these : (k : ℕ) → from ≤ k → k < from + count → is_used new k ≡ on
  pub others : (k : ℕ) → (k < from) ⊎ (from + count ≤ k) → is_used new k ≡ is_used old k

-- none of so many units from one on is used
pub record IsClear (units : Units) (from count : ℕ) : Type 0 where
  pub none : (k : ℕ) → from ≤ k → k < from + count → is_used units k ≡ false
