-- The open entry is settled: what is left of the image, and what a crash within leaves.
use Rattle.std.specs.Prelude.{◌≡◌, ◌≢◌, ℕ, ◌<◌, List, length, None}
use Rattle.pmem_lines.specs.Words.{word_at}
use Rattle.pmem_lines.specs.Pmem.{PmemState, HasRoom}
use Rattle.pmem_lines.specs.Events.{IsQuiet}
use Rattle.pool_layout.specs.Places.{wal_word}
use Rattle.image_tables.specs.declared.entry.WalEntry.{WalEntry}
use Rattle.image_tables.specs.Tables.{Tables, tables_of}
use Rattle.attach_wal.specs.Entry.{IsEntryWord}
use Rattle.heap_check.specs.Sound.{IsLooseLarge, IsEmptySlab, IsMorphing, IsDoneSlab, IsNearlyDone}
use Rattle.heap_check.specs.Image.{bounds_of, IsSteadyImage}
use Rattle.heap_check.specs.State.{HaveSameHeap, KeepsBlocks}

-- when

-- The image is steady, and the word of this line is that of the entry: so it is the open one.
pub record IsOpenIn (words : List ℕ) (line : ℕ) (entry : WalEntry) : Type 0 where
  pub image : IsSteadyImage words
  pub here : IsEntryWord (word_at words (wal_word line)) entry

-- The open entry, which the line of this number has, may be settled: nothing is under way, and there is room.
pub record MaySettle (number : ℕ) (IsOpen : Type 0) (s : PmemState) : Type 0 where
  pub line : number < 8
  pub open_entry : IsOpen
  pub quiet : IsQuiet s.events
  pub room : HasRoom s 6

-- what is left

-- The image is steady and has the numbers and the heap of the words, in which each block has its words. A crash within leaves
-- this, so that recovery may begin again.
pub record KeepsHeap (words image : List ℕ) : Type 0 where
  pub steady : IsSteadyImage image
  pub bounds : bounds_of image ≡ bounds_of words
  pub heap : HaveSameHeap words image
  pub blocks : KeepsBlocks words image

-- Nothing comes to be loose, but that a slab may be done whose last live old block was leaving.
pub record LoosensLeft (t new : Tables) : Type 0 where
  pub large : (start : ℕ) → IsLooseLarge new start → IsLooseLarge t start
  pub empty : (start : ℕ) → IsEmptySlab new start → IsEmptySlab t start
  pub morphing : (start : ℕ) → IsMorphing new start → IsMorphing t start
  pub done : (start : ℕ) → IsDoneSlab new start → IsNearlyDone t start

-- the words are the same, but for the line's and for one other
pub record KeepsAllButOne (words : List ℕ) (line k : ℕ) (image : List ℕ) : Type 0 where
  pub same_length : length image ≡ length words
  pub others : (j : ℕ) → j ≢ wal_word line → j ≢ k → word_at image j ≡ word_at words j

-- The image is steady with the same heap, and no entry is open; of the words the line's and that at k may have changed.
pub record IsSettled (words : List ℕ) (line k : ℕ) (new : List ℕ) : Type 0 where
  pub keeps : KeepsHeap words new
  pub rest : KeepsAllButOne words line k new
  pub closed : (tables_of new).open_entry ≡ None
  pub loose : LoosensLeft (tables_of words) (tables_of new)
