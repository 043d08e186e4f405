-- Defects of the log and of the extents that it says.
use Rattle.std.specs.Prelude.{◌≡◌, ◌≢◌, ◌⊎◌, ℕ, ◌+◌, ◌<◌, ◌≤◌, List, length, slice_index}
use Rattle.std.specs.List.{All}
use Rattle.pmem_lines.specs.Words.{word_at}
use Rattle.pool_layout.specs.declared.defect.Defect.{Defect}
use Rattle.pool_layout.specs.declared.defect.Defect.TheVariants.{BadDirectory, BadEntry, Overlap}
use Rattle.pool_layout.specs.Layout.{layout_of}
use Rattle.pool_layout.specs.Places.{directory_word}
use Rattle.pool_layout.specs.Header.{version_in, granules_in}
use Rattle.image_tables.specs.Tables.{Tables, tables_of}
use Rattle.book_log.specs.declared.entry.LogEntry.{LogEntry}
use Rattle.book_log.specs.Entry.{IsEntryWord, IsNoEntryWord}
use Rattle.book_log.specs.Log.{IsDirectory, IsChunk, logged}
use Rattle.book_log.specs.Book.{chunks_of}
use Rattle.heap_check.specs.Sound.{granules_at, Covers}
use Rattle.image_defects.specs.declared.found.LogPlace.{LogPlace}
use Rattle.image_defects.specs.declared.found.Pair.{Pair}
use Rattle.image_defects.specs.Least.{HasNone, IsLeast}

-- directory

-- the directory names one to eight chunks, each once
abbrev pub HasDirectory : List ℕ → Type 0
HasDirectory words = IsDirectory (word_at words directory_word) (chunks_of words)

-- it does not, and this is its value
pub record IsBadDirectory (words : List ℕ) (value : ℕ) : Type 0 where
  pub bad : ¬ (HasDirectory words)
  pub is : value ≡ word_at words directory_word

pub record IsDirectoryDefect (words : List ℕ) (defect : Defect) : Type 0 where
  pub value : ℕ
  pub bad : IsBadDirectory words value
  pub is : defect ≡ BadDirectory value

-- entries

-- in each active chunk every word is 0 or an entry, and no entry follows a 0
abbrev pub HasEntries : List ℕ → Type 0
HasEntries words = All (IsChunk (version_in words) (granules_in words) words) (chunks_of words)

-- a word other than 0 of a chunk that is no entry or follows a 0
pub record IsBadLogWord (words : List ℕ) (chunk entry : ℕ) : Type 0 where
  pub below : entry < (layout_of (version_in words)).chunk_entries
  pub some : logged (version_in words) words chunk entry ≢ 0
  pub bad : IsNoEntryWord (layout_of (version_in words)).first_granule (granules_in words) (logged (version_in words) words chunk entry)
      ⊎ ((earlier : ℕ) × (earlier < entry) × (logged (version_in words) words chunk earlier ≡ 0))

-- an active chunk, by its place in the directory
abbrev pub chunk_in : List ℕ → ℕ → ℕ
chunk_in words k = slice_index (chunks_of words) k

-- the word is that of an entry
pub record HasEntry (words : List ℕ) (word : ℕ) : Type 0 where
  pub entry : LogEntry
  pub is : IsEntryWord (layout_of (version_in words)).first_granule (granules_in words) word entry

-- the first such word in the order of the log
pub record IsFirstEntry (words : List ℕ) (place : LogPlace) : Type 0 where
  pub k : ℕ
  pub below : k < length (chunks_of words)
  pub chunk : place.chunk ≡ chunk_in words k
  pub first : IsLeast (IsBadLogWord words (chunk_in words k)) place.entry
  pub before : (j : ℕ) → j < k → HasNone (IsBadLogWord words (chunk_in words j))
  pub is : place.value ≡ logged (version_in words) words place.chunk place.entry

pub record IsEntryDefect (words : List ℕ) (defect : Defect) : Type 0 where
  pub place : LogPlace
  pub first : IsFirstEntry words place
  pub is : defect ≡ BadEntry place.chunk place.entry place.value

-- extents

-- no granule lies in two live extents
abbrev pub AreDisjoint : Tables → Type 0
AreDisjoint t = (start other k : ℕ) → Covers t start k → Covers t other k → start ≡ other

-- the live extent behind another, by start, begins in it
pub record IsOverlap (t : Tables) (first second : ℕ) : Type 0 where
  pub live : 0 < granules_at t second
  pub behind : first < second
  pub between : (k : ℕ) → first < k → k < second → granules_at t k ≡ 0
  pub shares : second < first + granules_at t first

-- the first such neighbours
pub record IsFirstOverlap (t : Tables) (pair : Pair) : Type 0 where
  pub overlap : IsOverlap t pair.first pair.second
  pub least : (other next : ℕ) → IsOverlap t other next → pair.first ≤ other

pub record IsOverlapDefect (words : List ℕ) (defect : Defect) : Type 0 where
  pub pair : Pair
  pub first : IsFirstOverlap (tables_of words) pair
  pub is : defect ≡ Overlap pair.first pair.second
