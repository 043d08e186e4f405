-- In a sound image no two live extents share a granule.
use Rattle.std.proofs.Common.{◌≡◌, ◌+◌, ◌<◌, ℕ, Some, List, arith}
use Rattle.pool_layout.specs.Layout.{layout_of}
use Rattle.pool_layout.specs.Header.{version_in, granules_in}
use Rattle.image_tables.specs.declared.extent.Extent.{Extent}
use Rattle.image_tables.specs.Extents.{extent_at}
use Rattle.image_tables.specs.Tables.{tables_of}
use Rattle.image_tables.proofs.Tables.{large_table, slab_table}
use Rattle.book_log.specs.Book.{chunks_of}
use Rattle.book_log.specs.Live.{AreLive, AreDisjoint, granules_of}
use Rattle.book_log.proofs.LiveExtents.{live_extents}
use Rattle.heap_check.specs.Sound.{granules_at, IsSound}
use Rattle.heap_check.specs.Image.{bounds_of, IsFormed}
use Rattle.heap_check.proofs.Geometry.{granules_at-slab, granules_at-large}
use Rattle.heap_check.proofs.Sizes.{sizes_of}

-- the live extents of a well-formed arena
pub live_of : (words : List ℕ) → IsFormed words → AreLive (layout_of (version_in words)).first_granule (granules_in words) (extent_at words)
live_of words formed = live_extents (granules_in words) words (chunks_of words) (omega (arith, (sizes_of words formed).most)) formed.log

-- an extent has the granules that the tables say
granules_table : (words : List ℕ) (start : ℕ) (extent : Extent) → extent_at words start ≡ Some extent → granules_at (tables_of words) start ≡ granules_of extent
granules_table words start extent is = grind (arith, granules_at-large, slab_table, large_table, granules_at-slab)

pub disjoint_of : (words : List ℕ) → IsFormed words → IsSound (bounds_of words) (tables_of words) → AreDisjoint (extent_at words)
disjoint_of words formed sound = record {
  each = λ start later x other less first second.
      let some = ((live_of words formed).each later other second).some in
      let one = granules_table words start x first in
      let two = granules_table words later other second in
      let same : later < start + granules_of x → start ≡ later =
      λ meets. sound.extents.disjoint start later later (record { low = omega (arith, less); high = omega (arith, meets, one) }) (record { low = omega arith; high = omega (arith, some, two) }) in
      grind arith;
}
