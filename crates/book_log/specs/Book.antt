-- What a bookkeeping log means to its callers, and when that is what the words of an arena say.
use Rattle.std.specs.Prelude.{◌≡◌, ◌≢◌, ◌⊎◌, ℕ, ◌+◌, ◌-◌, ◌*◌, ◌<◌, ◌≤◌, List, length, slice_index, Option, Some, None}
use Rattle.std.specs.List.{All}
use Rattle.pmem_lines.specs.Words.{word_at, put_word}
use Rattle.pmem_lines.specs.declared.event.Event.{Event}
use Rattle.durable_steps.specs.Steps.{word_events}
use Rattle.pool_layout.specs.Layout.{layout_of}
use Rattle.pool_layout.specs.Places.{directory_word, log_start, chunk_word, entry_slot, heap_word}
use Rattle.pool_layout.specs.Header.{version_in}
use Rattle.image_tables.specs.declared.extent.Extent.{Extent}
use Rattle.image_tables.specs.Log.{active_chunks}
use Rattle.image_tables.specs.Extents.{extent_at}
use Rattle.book_log.specs.declared.entry.LogEntry.{LogEntry}
use Rattle.book_log.specs.declared.place.EntryPlace.{EntryPlace}
use Rattle.book_log.specs.Entry.{log_word, IsInHeap}
use Rattle.book_log.specs.Log.{IsLog, IsNext, logged, with_entry}
use Rattle.book_log.specs.Table.{extent_in}

-- what a bookkeeping log means
pub record Book : Type 0 where
  -- how many granules the arena has
  pub granules : ℕ
  -- for each of them what starts there
  pub live : List (Option Extent)
  -- where the next entry goes, if there is room for it
  pub next : Option EntryPlace

-- what starts at a granule
abbrev pub live_at : Book → ℕ → Option Extent
live_at book start = extent_in book.live start

-- an arena of some version has so many granules
pub record IsArenaSize (granules : ℕ) : Type 0 where
  pub least : 16 ≤ granules
  pub most : granules ≤ 4096

-- nothing is live, and there is no room
pub record IsBlank (granules : ℕ) (book : Book) : Type 0 where
  pub granules_of : book.granules ≡ granules
  pub none : (start : ℕ) → live_at book start ≡ None
  pub no_room : book.next ≡ None

-- the active chunks of an arena of these words
abbrev pub chunks_of : List ℕ → List ℕ
chunks_of words = active_chunks (word_at words directory_word)

-- the last of them
abbrev pub last_chunk : List ℕ → ℕ
last_chunk words = slice_index (chunks_of words) (length (chunks_of words) - 1)

-- the log of an arena of so many granules is well formed
abbrev pub HasLog : ℕ → List ℕ → Type 0
HasLog granules words = IsLog granules words (chunks_of words)

-- a chunk lies among the words
abbrev pub IsWithin : List ℕ → ℕ → Type 0
IsWithin words chunk = chunk_word (version_in words) (chunk + 1) ≤ length words

-- each active chunk does
abbrev pub AreWithin : List ℕ → Type 0
AreWithin words = All (IsWithin words) (chunks_of words)

-- every word of a chunk's entries is an entry
pub record IsFull (version : ℕ) (words : List ℕ) (chunk : ℕ) : Type 0 where
  pub each : (entry : ℕ) → entry < (layout_of version).chunk_entries → logged version words chunk entry ≢ 0

-- the next entry of an arena of these words goes there: to the first word of the last active chunk that is 0
abbrev pub IsNextOf : List ℕ → Option EntryPlace → Type 0
IsNextOf words None = IsFull (version_in words) words (last_chunk words)
IsNextOf words (Some place) = (place.chunk ≡ last_chunk words) × IsNext (version_in words) words place.chunk place.entry

-- the last active chunk has an entry that is 0
pub record HasFreeEntry (words : List ℕ) : Type 0 where
  pub entry : ℕ
  pub below : entry < (layout_of (version_in words)).chunk_entries
  pub free : logged (version_in words) words (last_chunk words) entry ≡ 0

-- the log means what an arena of these words has
pub record Reads (book : Book) (words : List ℕ) : Type 0 where
  pub log : HasLog book.granules words
  pub inside : AreWithin words
  pub live : (start : ℕ) → live_at book start ≡ extent_at words start
  pub next : IsNextOf words book.next

-- the word of a place, if there is one
abbrev pub place_word : ℕ → Option EntryPlace → ℕ
place_word version None = 0
place_word version (Some place) = entry_slot version place.chunk place.entry

-- the word that the next entry goes to, where there is room
abbrev pub next_word : Book → List ℕ → ℕ
next_word book words = place_word (version_in words) book.next

-- a word of the log's chunks
pub record IsInLog (version word : ℕ) : Type 0 where
  pub low : log_start version < word
  pub high : word < heap_word version

-- an entry is put there and made durable
abbrev pub append_events : Book → List ℕ → LogEntry → List Event
append_events book words entry = word_events (8 * next_word book words) (log_word entry)

-- an entry may go to this place of the log
pub record CanTake (granules : ℕ) (words : List ℕ) (place : EntryPlace) (entry : LogEntry) : Type 0 where
  pub small : granules ≤ 4096
  pub log : HasLog granules words
  pub inside : AreWithin words
  pub next : IsNextOf words (Some place)
  pub valid : IsInHeap (layout_of (version_in words)).first_granule granules entry

-- the place behind a place of a chunk of so many entries, if there is one
abbrev pub IsPlaceAfter : ℕ → EntryPlace → Option EntryPlace → Type 0
IsPlaceAfter entries place None = entries ≤ place.entry + 1
IsPlaceAfter entries place (Some next) = (next.chunk ≡ place.chunk) × (next.entry ≡ place.entry + 1) × (next.entry < entries)

-- what a crash leaves of an entry that is put into this word: all words but one are as they were, the log is well
-- formed, and the live extents are those before the entry or those after it
pub record IsEntryOrNot (granules : ℕ) (words : List ℕ) (word : ℕ) (entry : LogEntry) (image : List ℕ) : Type 0 where
  pub is : (image ≡ words) ⊎ (image ≡ put_word words word (log_word entry))
  pub others : (other : ℕ) → other ≢ word → word_at image other ≡ word_at words other
  pub log : HasLog granules image
  pub extents : ((start : ℕ) → extent_at image start ≡ extent_at words start) ⊎ ((start : ℕ) → extent_at image start ≡ with_entry (extent_at words) entry start)
