-- The live extents: of the entries that name a start, the last one says what starts there.
use Rattle.std.specs.Prelude.{◌==◌, ℕ, ◌/◌, ◌%◌, ◌^◌, List, [], ◌∷◌, Option, Some, None, if◌then◌else◌}
use Rattle.image_tables.specs.declared.extent.Extent.{Extent}
use Rattle.image_tables.specs.declared.extent.Extent.TheVariants.{Large, Slab}
use Rattle.image_tables.specs.Log.{log_of}

-- the granule that an entry names
abbrev pub start_of_entry : ℕ → ℕ
start_of_entry word = word / 2 ^ 8 % 2 ^ 16

-- what an entry says of it: a Tomb says that nothing starts there
abbrev pub extent_of_entry : ℕ → Option Extent
extent_of_entry word =
    if word % 2 ^ 8 == 1 then Some (Large (word / 2 ^ 24 % 2 ^ 16))
    else (if word % 2 ^ 8 == 2 then Some Slab else None)

-- what starts at a granule behind an entry
abbrev pub extent_after : ℕ → ℕ → Option Extent → Option Extent
extent_after word start before = if start_of_entry word == start then extent_of_entry word else before

-- what starts at a granule behind several entries
abbrev pub extent_behind : List ℕ → ℕ → Option Extent → Option Extent
extent_behind [] start before = before
extent_behind (word ∷ words) start before = extent_behind words start (extent_after word start before)

-- what starts at a granule of an arena of these words
unfoldable pub extent_at : List ℕ → ℕ → Option Extent
extent_at words start = extent_behind (log_of words) start None
