-- The state of the heap machine that an image of this variant has, what stays of its blocks, and what a crash within a call leaves.
use Rattle.std.specs.Prelude.{◌≡◌, ◌⊎◌, ℕ, List, Option, Some}
use Rattle.pmem_lines.specs.Words.{word_at}
use Rattle.heap_model.specs.Machine.{Range, Machine}
use Rattle.heap_check.specs.Heap.{slabs}
use Rattle.heap_check.specs.Image.{bounds_of}
use Rattle.heap_check.specs.State.{IsWordOf, HasValue}
use Rattle.gc_check.specs.Heap.{gc_tables, gc_heap}
use Rattle.gc_check.specs.Image.{IsGcSoundImage}

-- the block of each root, and the class of the slab at each granule, by the words
abbrev pub gc_blocks : List ℕ → ℕ → Option Range
gc_blocks words = gc_heap (gc_tables words)

abbrev pub gc_slabs : List ℕ → ℕ → Option ℕ
gc_slabs words = slabs (gc_tables words)

-- The image has this state: its blocks, its slabs, and the words that were written into its blocks.
pub record HasGcState (words : List ℕ) (m : Machine) : Type 0 where
  pub blocks : (root : ℕ) → gc_blocks words root ≡ m.block root
  pub slabs : (start : ℕ) → gc_slabs words start ≡ m.slab start
  pub values : (root index word : ℕ) → m.value root index ≡ Some word → HasValue words m root index word

-- two images have the same heap
pub record HaveSameGcHeap (words image : List ℕ) : Type 0 where
  pub each : (root : ℕ) → gc_blocks image root ≡ gc_blocks words root

-- each range that is a block of the old heap and of the image's, of whichever root, has its old words in the image
pub record KeepsGcBlocks (old image : List ℕ) : Type 0 where
  pub each : (root other : ℕ) (range : Range) (k : ℕ) → gc_blocks old root ≡ Some range → gc_blocks image other ≡ Some range → IsWordOf range k → word_at image k ≡ word_at old k

-- A crash within a call from the old words to the new ones leaves a sound image of the same numbers with the heap of the one or of
-- the other, in which each block that was there before has its words.
pub record IsEitherGcHeap (old new image : List ℕ) : Type 0 where
  pub sound : IsGcSoundImage image
  pub bounds : bounds_of image ≡ bounds_of old
  pub heap : HaveSameGcHeap old image ⊎ HaveSameGcHeap new image
  pub words : KeepsGcBlocks old image
