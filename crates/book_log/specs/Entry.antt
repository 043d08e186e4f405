-- The words of the log's entries.
use Rattle.std.specs.Prelude.{◌≡◌, ◌≢◌, ◌==◌, ℕ, ◌+◌, ◌*◌, ◌/◌, ◌%◌, ◌^◌, ◌<◌, ◌≤◌, Option, Some, None, if◌then◌else◌}
use Rattle.image_tables.specs.declared.extent.Extent.{Extent}
use Rattle.image_tables.specs.declared.extent.Extent.TheVariants as extent
use Rattle.image_tables.specs.Extents.{start_of_entry, extent_of_entry}
use Rattle.book_log.specs.declared.entry.LogEntry.{LogEntry}
use Rattle.book_log.specs.declared.entry.LogEntry.TheVariants.{Large, Slab, Tomb}

-- the word of an entry
abbrev pub log_word : LogEntry → ℕ
log_word (Large start granules) = 1 + 2 ^ 8 * start + 2 ^ 24 * granules
log_word (Slab start) = 2 + 2 ^ 8 * start
log_word (Tomb start) = 3 + 2 ^ 8 * start

-- the numbers of an entry fit the word
abbrev pub FitsWord : LogEntry → Type 0
FitsWord (Large start granules) = (start < 2 ^ 16) × (granules < 2 ^ 16)
FitsWord (Slab start) = start < 2 ^ 16
FitsWord (Tomb start) = start < 2 ^ 16

-- the entry speaks of the heap of an arena of so many granules, which begins with this granule
abbrev pub IsInHeap : ℕ → ℕ → LogEntry → Type 0
IsInHeap first granules (Large start size) = (first ≤ start) × (2 ≤ size) × (start + size ≤ granules)
IsInHeap first granules (Slab start) = (first ≤ start) × (start + 4 ≤ granules)
IsInHeap first granules (Tomb start) = (first ≤ start) × (start < granules)

-- the word is that of an entry in the heap
pub record IsEntryWord (first granules value : ℕ) (entry : LogEntry) : Type 0 where
  pub word : value ≡ log_word entry
  pub fits : FitsWord entry
  pub in_heap : IsInHeap first granules entry

-- the word is that of no entry in the heap
abbrev pub IsNoEntryWord : ℕ → ℕ → ℕ → Type 0
IsNoEntryWord first granules word = (entry : LogEntry) → ¬ (IsEntryWord first granules word entry)

-- what the fields of a word say, whatever the rest of the word is
abbrev pub read_entry : ℕ → Option LogEntry
read_entry word =
    if word % 2 ^ 8 == 1 then Some (Large (word / 2 ^ 8 % 2 ^ 16) (word / 2 ^ 24 % 2 ^ 16))
    else (if word % 2 ^ 8 == 2 then Some (Slab (word / 2 ^ 8 % 2 ^ 16))
    else (if word % 2 ^ 8 == 3 then Some (Tomb (word / 2 ^ 8 % 2 ^ 16)) else None))

-- the granule that an entry names
abbrev pub start_of : LogEntry → ℕ
start_of (Large start granules) = start
start_of (Slab start) = start
start_of (Tomb start) = start

-- what starts there
abbrev pub extent_of : LogEntry → Option Extent
extent_of (Large start granules) = Some (extent.Large granules)
extent_of (Slab start) = Some extent.Slab
extent_of (Tomb start) = None

-- a word says of the live extents what an entry says
pub record SaysOf (word : ℕ) (entry : LogEntry) : Type 0 where
  pub start : start_of_entry word ≡ start_of entry
  pub says : extent_of_entry word ≡ extent_of entry

-- the word is 0, or that of an entry that names one of so many granules
pub record IsEmptyOrEntry (granules word : ℕ) : Type 0 where
  pub named : word ≢ 0 → (entry : LogEntry) × (word ≡ log_word entry) × FitsWord entry × (start_of entry < granules)
