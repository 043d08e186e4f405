-- What one pass over the log keeps of each start: what its last entry says, what the last entry of another chunk says,
-- and whose the last entry is. That tells of each chunk at once whether the start needs it.
use Rattle.std.specs.Prelude.{◌==◌, ◌&&◌, ◌≤◌, length, true, ℕ, zero, suc, Bool, List, [], ◌∷◌, slice_index_or, Option, None, if◌then◌else◌}
use Rattle.image_tables.specs.declared.extent.Extent.{Extent}
use Rattle.image_tables.specs.Extents.{start_of_entry, extent_of_entry}
use Rattle.pool_layout.specs.Places.{heap_word}
use Rattle.pool_layout.specs.Header.{version_in}
use Rattle.book_log.specs.Book.{HasLog}
use Rattle.log_room.specs.declared.census.Slot.{Slot}
use Rattle.log_room.specs.Needless.{same_extent}

-- of a start that no entry names: 16 is no chunk's number
abbrev pub blank_slot : Slot
blank_slot = record { last = None; other = None; owner = 16 }

-- what is kept of a start
abbrev pub slot_at : List Slot → ℕ → Slot
slot_at slots start = slice_index_or slots start blank_slot

-- a chunk's entry says this of the start
abbrev pub slot_noted : ℕ → Option Extent → Slot → Slot
slot_noted chunk says slot = record { last = says; other = if slot.owner == chunk then slot.other else slot.last; owner = chunk }

-- behind an entry of a chunk
abbrev pub slot_after : ℕ → ℕ → ℕ → Slot → Slot
slot_after chunk word start slot = if start_of_entry word == start then slot_noted chunk (extent_of_entry word) slot else slot

-- behind several entries of a chunk
abbrev pub slot_behind : ℕ → List ℕ → ℕ → Slot → Slot
slot_behind chunk [] start slot = slot
slot_behind chunk (word ∷ words) start slot = slot_behind chunk words start (slot_after chunk word start slot)

-- behind the entries of chunks, one after another
abbrev pub slot_over : (ℕ → List ℕ) → List ℕ → ℕ → Slot → Slot
slot_over log [] start slot = slot
slot_over log (chunk ∷ chunks) start slot = slot_over log chunks start (slot_behind chunk (log chunk) start slot)

-- a start does not need the chunk
abbrev pub spares : Slot → ℕ → Bool
spares slot chunk = if slot.owner == chunk then same_extent slot.other slot.last else true

-- none of the first n starts needs the chunk
abbrev pub all_spare : (ℕ → Slot) → ℕ → ℕ → Bool
all_spare slots chunk zero = true
all_spare slots chunk (suc n) = all_spare slots chunk n && spares (slots n) chunk

-- the log of the words is well formed, and lies in them as a whole
pub record HasWholeLog (granules : ℕ) (words : List ℕ) : Type 0 where
  pub log : HasLog granules words
  pub inside : heap_word (version_in words) ≤ length words
