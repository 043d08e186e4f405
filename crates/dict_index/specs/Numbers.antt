-- Numbers by root, and the greatest of them. A root that has none counts as one of number 0.
use Rattle.std.specs.Prelude.{◌≡◌, ◌⊎◌, ℕ, ◌<◌, ◌≤◌, List, length, slice_index}

-- no root has a number
pub record AreNone (numbers : List ℕ) (roots : ℕ) : Type 0 where
  pub size : length numbers ≡ roots
  pub none : (root : ℕ) → slice_index numbers root ≡ 0

-- of a part of a list, from one place to below another one, it is the greatest number, or 0 where that is empty
pub record IsGreatestIn (numbers : List ℕ) (from to greatest : ℕ) : Type 0 where
  pub most : (i : ℕ) → from ≤ i → i < to → slice_index numbers i ≤ greatest
  pub is : (greatest ≡ 0) ⊎ ((i : ℕ) × (from ≤ i) × (i < to) × (slice_index numbers i ≡ greatest))

-- the greatest number of a root, or 0 where none has one
pub record IsGreatest (numbers : List ℕ) (greatest : ℕ) : Type 0 where
  pub most : (root : ℕ) → slice_index numbers root ≤ greatest
  pub is : (greatest ≡ 0) ⊎ ((root : ℕ) × (root < length numbers) × (slice_index numbers root ≡ greatest))
