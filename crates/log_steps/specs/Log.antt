-- An entry is put into the log, and room is made for it before: what is read then, and what a crash within it leaves.
use Rattle.std.specs.Prelude.{◌≡◌, ◌≢◌, ◌⊎◌, ℕ, ◌<◌, ◌≤◌, List, length}
use Rattle.pmem_lines.specs.Words.{word_at}
use Rattle.pool_layout.specs.Places.{directory_word, log_start, heap_word}
use Rattle.pool_layout.specs.Header.{version_in, granules_in}
use Rattle.image_tables.specs.Extents.{extent_at}
use Rattle.book_log.specs.declared.entry.LogEntry.{LogEntry}
use Rattle.book_log.specs.Book.{Book, HasLog, Reads}
use Rattle.book_log.specs.Log.{with_entry}

-- the image differs from the words in the log and the directory alone, and its log is well formed
pub record KeepsRest (words image : List ℕ) : Type 0 where
  pub same_length : length image ≡ length words
  pub others : (k : ℕ) → k ≢ directory_word → (k < log_start (version_in words)) ⊎ (heap_word (version_in words) ≤ k) → word_at image k ≡ word_at words k
  pub log : HasLog (granules_in words) image

-- the live extents are as before
abbrev pub HasSameExtents : List ℕ → List ℕ → Type 0
HasSameExtents words image = (start : ℕ) → extent_at image start ≡ extent_at words start

-- they are those with the entry done
abbrev pub HasExtentsWith : List ℕ → LogEntry → List ℕ → Type 0
HasExtentsWith words entry image = (start : ℕ) → extent_at image start ≡ with_entry (extent_at words) entry start

-- the entry is done
pub record IsLogged (words : List ℕ) (entry : LogEntry) (image : List ℕ) : Type 0 where
  pub rest : KeepsRest words image
  pub extents : HasExtentsWith words entry image

-- the entry is done or not
pub record IsLoggedOrNot (words : List ℕ) (entry : LogEntry) (image : List ℕ) : Type 0 where
  pub rest : KeepsRest words image
  pub extents : HasSameExtents words image ⊎ HasExtentsWith words entry image

-- the log is that of these words
pub record IsBookOf (book : Book) (words : List ℕ) : Type 0 where
  pub reads : Reads book words
  pub granules : book.granules ≡ granules_in words
