-- A sound image in which nothing is loose is exact.
use Rattle.std.proofs.Common.{◌≡◌, ℕ, ◌<◌, true, List, arith}
use Rattle.pool_layout.specs.Layout.{layout_of}
use Rattle.pool_layout.proofs.Layouts.{layout_rules}
use Rattle.pool_layout.specs.Header.{version_in}
use Rattle.image_tables.specs.Tables.{Tables}
use Rattle.heap_check.specs.Sound.{IsLooseLarge, IsEmptySlab}
use Rattle.heap_check.proofs.Geometry.{granules_at-slab}
use Rattle.image_defects.specs.Least.{HasNone}
use Rattle.defect_search.proofs.NoneLoose.{named, lived}
use Rattle.gc_check.specs.Heap.{gc_tables}
use Rattle.gc_check.specs.Image.{IsGcSoundImage, IsGcExactImage}
use Rattle.gc_check.proofs.RootWords.{whole}
use Rattle.gc_search.proofs.Marks.{held_below}

module _ (words : List ℕ) (image : IsGcSoundImage words) where
  abbrev t : Tables
  t = gc_tables words

  large_start : (start : ℕ) → 0 < t.large start → 0 < start
  large_start start some =
      let size = whole image.sound start some in
      omega (arith, (image.sound.extents.starts start (omega (arith, size, some))).0, (layout_rules (version_in words)).first)

  slab_start : (start : ℕ) → t.slab start ≡ true → 0 < start
  slab_start start slab =
      let four = granules_at-slab t start slab in
      omega (arith, (image.sound.extents.starts start (omega (arith, four))).0, (layout_rules (version_in words)).first)

  pub exact_by_none : HasNone (IsLooseLarge t) → HasNone (IsEmptySlab t) → IsGcExactImage words
  exact_by_none no_large no_empty =
      let roots = (layout_of (version_in words)).roots in
      record {
        formed = image.formed;
        exact = record {
          sound = image.sound;
          all_named = named t roots (held_below words) large_start no_large;
          all_live = lived t roots (held_below words) slab_start no_empty;
        };
      }
