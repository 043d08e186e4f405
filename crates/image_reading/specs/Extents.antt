-- The live extents of an image whose log is well formed.
use Rattle.std.specs.Prelude.{ℕ, ◌+◌, ◌<◌, ◌≤◌, List}
use Rattle.pool_layout.specs.Layout.{layout_of}
use Rattle.pool_layout.specs.Header.{version_in, granules_in}
use Rattle.image_tables.specs.Tables.{tables_of}
use Rattle.heap_check.specs.Sound.{granules_at}

-- the live extents lie in an arena, which has no more granules than its version allows
pub record HasExtents (words : List ℕ) : Type 0 where
  pub few : granules_in words ≤ (layout_of (version_in words)).most_granules
  pub inside : (start : ℕ) → 0 < granules_at (tables_of words) start → start + granules_at (tables_of words) start ≤ granules_in words
