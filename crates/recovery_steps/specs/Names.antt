-- Which granules of an arena the blocks of its roots begin in. No step of recovery changes what a root holds, so this is
-- read once.
use Rattle.std.specs.Prelude.{◌≡◌, ℕ, Bool, List, length}
use Rattle.pool_layout.specs.Layout.{layout_of}
use Rattle.pool_layout.specs.Header.{version_in, granules_in}
use Rattle.image_tables.specs.Tables.{tables_of}
use Rattle.defect_search.specs.Roots.{IsNamedStart, IsNamedGranule, AreMarks}

pub record Names : Type 0 where
  -- for each granule whether a root's block begins at its first byte
  pub starts : List Bool
  -- and whether one begins in it
  pub granules : List Bool

-- they are those of the roots of an arena of these words
pub record AreNames (names : Names) (words : List ℕ) : Type 0 where
  pub starts_size : length names.starts ≡ granules_in words
  pub granules_size : length names.granules ≡ granules_in words
  pub starts : AreMarks (IsNamedStart (tables_of words) (layout_of (version_in words)).roots) names.starts
  pub granules : AreMarks (IsNamedGranule (tables_of words) (layout_of (version_in words)).roots) names.granules
