-- A well-formed log, where its next entry goes, and what the entry changes of the live extents.
use Rattle.std.specs.Prelude.{◌≡◌, ◌≢◌, ◌==◌, ℕ, ◌+◌, ◌*◌, ◌<◌, ◌≤◌, List, [], ◌∷◌, length, Option, if◌then◌else◌}
use Rattle.std.specs.List.{All, AllPairs}
use Rattle.pmem_lines.specs.Words.{word_at}
use Rattle.pool_layout.specs.Layout.{layout_of}
use Rattle.pool_layout.specs.Places.{directory_word, entry_slot}
use Rattle.pool_layout.specs.Header.{version_in}
use Rattle.image_tables.specs.declared.extent.Extent.{Extent}
use Rattle.book_log.specs.declared.entry.LogEntry.{LogEntry}
use Rattle.book_log.specs.Entry.{IsEntryWord, start_of, extent_of}

-- the directory's word for these active chunks: byte by byte from the least, each chunk's number and one
abbrev pub directory_of : List ℕ → ℕ
directory_of [] = 0
directory_of (chunk ∷ chunks) = chunk + 1 + 256 * directory_of chunks

-- the word is the directory of these active chunks, of which there are one to eight
pub record IsDirectory (directory : ℕ) (chunks : List ℕ) : Type 0 where
  pub word : directory ≡ directory_of chunks
  pub some : 1 ≤ length chunks
  pub most : length chunks ≤ 8
  pub small : All (λ chunk. chunk < 16) chunks
  pub once : AllPairs (λ chunk later. chunk ≢ later) chunks

-- the word of an entry of a chunk
abbrev pub logged : ℕ → List ℕ → ℕ → ℕ → ℕ
logged version words chunk place = word_at words (entry_slot version chunk place)

-- each word of the chunk is 0 or an entry in the heap, and no entry follows a 0
pub record IsChunk (version granules : ℕ) (words : List ℕ) (chunk : ℕ) : Type 0 where
  pub entries : (place : ℕ) → place < (layout_of version).chunk_entries → logged version words chunk place ≢ 0 →
      (entry : LogEntry) × IsEntryWord (layout_of version).first_granule granules (logged version words chunk place) entry
  pub packed : (place later : ℕ) → place ≤ later → later < (layout_of version).chunk_entries → logged version words chunk place ≡ 0 → logged version words chunk later ≡ 0

-- the log of an arena of so many granules is well formed, and these chunks are active
pub record IsLog (granules : ℕ) (words chunks : List ℕ) : Type 0 where
  pub directory : IsDirectory (word_at words directory_word) chunks
  pub entries : All (IsChunk (version_in words) granules words) chunks

-- the next entry goes to this place of a chunk: it is the first that has none
pub record IsNext (version : ℕ) (words : List ℕ) (chunk place : ℕ) : Type 0 where
  pub below : place < (layout_of version).chunk_entries
  pub free : logged version words chunk place ≡ 0
  pub first : (earlier : ℕ) → earlier < place → logged version words chunk earlier ≢ 0

-- a table of live extents with what an entry says done
abbrev pub with_entry : (ℕ → Option Extent) → LogEntry → ℕ → Option Extent
with_entry extents entry start = if start == start_of entry then extent_of entry else extents start
