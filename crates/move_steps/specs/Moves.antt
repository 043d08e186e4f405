-- A block moves from a root to another: when it may, what that leaves, and what a crash within it leaves.
use Rattle.std.specs.Prelude.{◌≡◌, ◌≢◌, ◌⊎◌, ℕ, ◌<◌, List, length, None}
use Rattle.pmem_lines.specs.Words.{word_at}
use Rattle.pool_layout.specs.Places.{root_word, wal_word}
use Rattle.image_tables.specs.Tables.{tables_of}
use Rattle.image_tables.specs.Updates.{with_root}
use Rattle.heap_check.specs.Heap.{heap}
use Rattle.heap_check.specs.Slabs.{IsSameSlab}
use Rattle.heap_check.specs.Image.{bounds_of, IsExactImage, IsSteadyImage}
use Rattle.heap_check.specs.State.{HaveSameHeap, KeepsBlocks}

-- when

-- the image is exact, the one root holds the block at the address, and the other holds none
pub record IsMovable (words : List ℕ) (from to at : ℕ) : Type 0 where
  pub image : IsExactImage words
  pub from_rooted : from < (bounds_of words).roots
  pub to_rooted : to < (bounds_of words).roots
  pub some : at ≢ 0
  pub named : (tables_of words).root from ≡ at
  pub none : (tables_of words).root to ≡ 0

-- what is left

-- the words are the same, but for the line's and those of the two roots
pub record KeepsAllButMove (words : List ℕ) (line from to : ℕ) (image : List ℕ) : Type 0 where
  pub same_length : length image ≡ length words
  pub others : (k : ℕ) → k ≢ wal_word line → k ≢ root_word from → k ≢ root_word to → word_at image k ≡ word_at words k

-- the second root has the block of the first, which has none now, and the heap is the same of all others
pub record MovesOne (words : List ℕ) (from to : ℕ) (new : List ℕ) : Type 0 where
  pub here : heap (tables_of new) to ≡ heap (tables_of words) from
  pub gone : heap (tables_of new) from ≡ None
  pub others : (other : ℕ) → other ≢ from → other ≢ to → heap (tables_of new) other ≡ heap (tables_of words) other

-- The block moved, and the image is exact. It says the same of all but the two roots, so that slabs and extents are as they
-- were and no entry is open; of the words the line's and the roots' may have changed.
pub record IsMoved (words : List ℕ) (line from to at : ℕ) (new : List ℕ) : Type 0 where
  pub exact : IsExactImage new
  pub bounds : bounds_of new ≡ bounds_of words
  pub tables : tables_of new ≡ with_root (with_root (tables_of words) to at) from 0
  pub slabs : (start : ℕ) → IsSameSlab (tables_of words) (tables_of new) start
  pub moves : MovesOne words from to new
  pub keeps : KeepsBlocks words new
  pub rest : KeepsAllButMove words line from to new

-- A crash within a move to a root, from the old words to the new ones, leaves a steady image of the same numbers with the heap
-- of the one or of the other, in which each block that was there before has its words; and where a move entry is open in it,
-- the root holds its word still.
pub record IsEitherMoved (old new : List ℕ) (to : ℕ) (image : List ℕ) : Type 0 where
  pub steady : IsSteadyImage image
  pub bounds : bounds_of image ≡ bounds_of old
  pub heap : HaveSameHeap old image ⊎ HaveSameHeap new image
  pub words : KeepsBlocks old image
  pub held : (tables_of image).root to ≡ (tables_of image).word to
