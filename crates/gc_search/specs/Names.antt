-- Which granules of an arena the blocks of its roots begin in. A Tomb changes no root, so this is read once.
use Rattle.std.specs.Prelude.{◌≡◌, ℕ, Bool, false, List, length}
use Rattle.pool_layout.specs.Layout.{layout_of}
use Rattle.pool_layout.specs.Header.{version_in, granules_in}
use Rattle.defect_search.specs.Roots.{mark_in, IsNamedStart, IsNamedGranule, AreMarks}
use Rattle.gc_check.specs.Heap.{gc_tables}

pub record Names : Type 0 where
  -- for each granule whether a root's block begins at its first byte
  pub starts : List Bool
  -- and whether one begins in it
  pub granules : List Bool

-- none of so many granules is marked
pub record AreBlankNames (granules : ℕ) (names : Names) : Type 0 where
  pub starts_size : length names.starts ≡ granules
  pub granules_size : length names.granules ≡ granules
  pub no_start : (k : ℕ) → mark_in names.starts k ≡ false
  pub no_granule : (k : ℕ) → mark_in names.granules k ≡ false

-- they are those of the roots of an arena of these words
pub record AreNamesOf (words : List ℕ) (names : Names) : Type 0 where
  pub starts_size : length names.starts ≡ granules_in words
  pub granules_size : length names.granules ≡ granules_in words
  pub starts : AreMarks (IsNamedStart (gc_tables words) (layout_of (version_in words)).roots) names.starts
  pub granules : AreMarks (IsNamedGranule (gc_tables words) (layout_of (version_in words)).roots) names.granules
