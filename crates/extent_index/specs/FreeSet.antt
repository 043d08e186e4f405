-- A set of free granules of a heap.
use Rattle.std.specs.Prelude.{ℕ, ◌+◌, ◌<◌, ◌≤◌, Bool, false, IsTrue, List, slice_index_or}

-- which granules of an arena of so many are free, one after another
pub record FreeSet : Type 0 where
  pub granules : ℕ
  pub marks : List Bool

-- granule k is free
unfoldable pub IsFree : FreeSet → ℕ → Type 0
IsFree set k = IsTrue (slice_index_or set.marks k false)

-- these granules, n from a start on, all lie in the heap, and none of them is free
pub record IsHeldRow (set : FreeSet) (start n : ℕ) : Type 0 where
  pub each : (k : ℕ) → start ≤ k → k < start + n → (4 ≤ k) × (k < set.granules) × (¬ (IsFree set k))
