-- What the stages that look at extents have to know of an image: what the stages before them found.
use Rattle.std.specs.Prelude.{◌≡◌, ℕ, ◌*◌, ◌+◌, ◌<◌, ◌≤◌, List, length, true}
use Rattle.pool_layout.specs.Layout.{layout_of, IsVersion}
use Rattle.pool_layout.specs.Header.{version_in, granules_in}
use Rattle.image_tables.specs.Tables.{is_slab, state_field, tables_of}
use Rattle.book_log.specs.Book.{IsArenaSize}

-- the words of an arena, whose live extents lie in it
pub record IsArena (words : List ℕ) : Type 0 where
  pub version : IsVersion (version_in words)
  pub granules : IsArenaSize (granules_in words)
  pub least : (layout_of (version_in words)).least_granules ≤ granules_in words
  pub size : length words ≡ 2048 * granules_in words
  pub large : (start : ℕ) → 0 < (tables_of words).large start → ((layout_of (version_in words)).first_granule ≤ start) × (start + (tables_of words).large start ≤ granules_in words)
  pub slab : (start : ℕ) → is_slab words start ≡ true → ((layout_of (version_in words)).first_granule ≤ start) × (start + 4 ≤ granules_in words)
  pub entries : (start : ℕ) → is_slab words start ≡ true → state_field words start 24 ≤ 64
