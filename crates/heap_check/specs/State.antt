-- The state of the heap machine that an image has, what stays the same of its blocks, and what a crash within a call
-- leaves.
use Rattle.std.specs.Prelude.{◌≡◌, ◌⊎◌, ℕ, ◌+◌, ◌/◌, ◌<◌, ◌≤◌, List, Some}
use Rattle.pmem_lines.specs.Words.{word_at}
use Rattle.image_tables.specs.Tables.{tables_of}
use Rattle.image_tables.specs.Updates.{HasNoMove}
use Rattle.heap_model.specs.Machine.{Range, Machine}
use Rattle.heap_check.specs.Heap.{heap, slabs}
use Rattle.heap_check.specs.Image.{bounds_of, IsSteadyImage}

-- word k lies in the range
pub record IsWordOf (range : Range) (k : ℕ) : Type 0 where
  pub low : range.at / 8 ≤ k
  pub high : k < range.at / 8 + range.size / 8

-- the block of a root has this word at an index
pub record HasValue (words : List ℕ) (m : Machine) (root index word : ℕ) : Type 0 where
  pub range : Range
  pub named : m.block root ≡ Some range
  pub within : index < range.size / 8
  pub here : word_at words (range.at / 8 + index) ≡ word

-- The image has this state: its blocks, its slabs, and the words that were written into its blocks.
pub record HasState (words : List ℕ) (m : Machine) : Type 0 where
  pub blocks : (root : ℕ) → heap (tables_of words) root ≡ m.block root
  pub slabs : (start : ℕ) → slabs (tables_of words) start ≡ m.slab start
  pub values : (root index word : ℕ) → m.value root index ≡ Some word → HasValue words m root index word

-- two images have the same heap
pub record HaveSameHeap (words image : List ℕ) : Type 0 where
  pub each : (root : ℕ) → heap (tables_of image) root ≡ heap (tables_of words) root

-- each range that is a block of the old heap and of the image's, of whichever root, has its old words in the image
pub record KeepsBlocks (old image : List ℕ) : Type 0 where
  pub each : (root other : ℕ) (range : Range) (k : ℕ) → heap (tables_of old) root ≡ Some range → heap (tables_of image) other ≡ Some range → IsWordOf range k → word_at image k ≡ word_at old k

-- A crash within a call from the old words to the new ones leaves a steady image of the same numbers with the heap of the one
-- or of the other, in which each block that was there before has its words; and no move entry is open in it.
pub record IsEitherHeap (old new image : List ℕ) : Type 0 where
  pub steady : IsSteadyImage image
  pub bounds : bounds_of image ≡ bounds_of old
  pub heap : HaveSameHeap old image ⊎ HaveSameHeap new image
  pub words : KeepsBlocks old image
  pub still : HasNoMove (tables_of image).open_entry
