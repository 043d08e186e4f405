-- Which granules the words of the roots name.
use Rattle.std.specs.Prelude.{◌≡◌, ◌≢◌, ◌↔◌, ℕ, ◌*◌, ◌/◌, ◌<◌, Bool, true, false, List, length, slice_index_or}
use Rattle.image_tables.specs.Tables.{Tables}
use Rattle.heap_check.specs.Sound.{IsStanding}

abbrev pub mark_in : List Bool → ℕ → Bool
mark_in marks k = slice_index_or marks k false

-- the word of one of the first n roots is the first byte of granule k, which is not the first
pub record IsNamedStart (t : Tables) (n k : ℕ) : Type 0 where
  pub root : ℕ
  pub below : root < n
  pub some : t.root root ≢ 0
  pub here : t.root root ≡ 16384 * k

-- the word of one of the first n roots lies in granule k
pub record IsNamedGranule (t : Tables) (n k : ℕ) : Type 0 where
  pub root : ℕ
  pub below : root < n
  pub some : t.root root ≢ 0
  pub here : t.root root / 16384 ≡ k

-- exactly the granules with a property are marked
pub record AreMarks (P : ℕ → Type 0) (marks : List Bool) : Type 0 where
  pub each : (k : ℕ) → k < length marks → ((mark_in marks k ≡ true) ↔ P k)

-- a root holds nothing, or what stands where a block may
pub record IsSettled (t : Tables) (root : ℕ) : Type 0 where
  pub stands : t.root root ≢ 0 → IsStanding t root (t.root root)
