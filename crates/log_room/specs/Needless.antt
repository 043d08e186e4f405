-- Needless chunks: the log without the chunk's entries has the same live extents, by start, kind and length. The last
-- entry of a live extent may stand in a needless chunk, where an earlier entry in another chunk says the same; and a
-- Tomb keeps its chunk needed where an earlier entry in another chunk says that something starts there.
use Rattle.std.specs.Prelude.{◌==◌, ◌&&◌, true, false, ℕ, zero, suc, Bool, List, [], ◌∷◌, flat_map, Option, Some, None, if◌then◌else◌}
use Rattle.pool_layout.specs.Header.{version_in}
use Rattle.image_tables.specs.declared.extent.Extent.{Extent}
use Rattle.image_tables.specs.declared.extent.Extent.TheVariants.{Large, Slab}
use Rattle.image_tables.specs.Log.{chunk_log}
use Rattle.image_tables.specs.Extents.{extent_behind}
use Rattle.log_room.specs.Chunks.{without}

-- what starts at a granule, read off the entries of these chunks alone
unfoldable pub extent_over : List ℕ → List ℕ → ℕ → Option Extent
extent_over words chunks start = extent_behind (flat_map (chunk_log (version_in words) words) chunks) start None

-- two are of one kind and length
abbrev pub same_extent : Option Extent → Option Extent → Bool
same_extent None None = true
same_extent None (Some other) = false
same_extent (Some extent) None = false
same_extent (Some (Large granules)) (Some (Large other)) = granules == other
same_extent (Some (Large granules)) (Some Slab) = false
same_extent (Some Slab) (Some (Large other)) = false
same_extent (Some Slab) (Some Slab) = true

-- the same starts at each of the first n granules
abbrev pub same_extents : (ℕ → Option Extent) → (ℕ → Option Extent) → ℕ → Bool
same_extents extents others zero = true
same_extents extents others (suc n) = same_extents extents others n && same_extent (extents n) (others n)

-- in an arena of so many granules with these active chunks: the log has the same live extents without the chunk
unfoldable pub is_needless : ℕ → List ℕ → List ℕ → ℕ → Bool
is_needless granules words active chunk = same_extents (extent_over words (without chunk active)) (extent_over words active) granules

-- the first of the chunks that passes a test
abbrev pub first_of : (ℕ → Bool) → List ℕ → Option ℕ
first_of test [] = None
first_of test (chunk ∷ chunks) = if test chunk then Some chunk else first_of test chunks

-- the first needless chunk in the order of the directory
abbrev pub first_needless : ℕ → List ℕ → List ℕ → Option ℕ
first_needless granules words active = first_of (is_needless granules words active) active
