-- A root's word comes, or goes: when it may, and what it leaves.
use Rattle.std.specs.Prelude.{◌≡◌, ◌≢◌, ℕ, ◌*◌, ◌<◌, List, Option, Some, None}
use Rattle.pmem_lines.specs.declared.event.Event.{Event}
use Rattle.pool_layout.specs.Places.{root_word}
use Rattle.durable_steps.specs.Steps.{word_events}
use Rattle.heap_model.specs.Machine.{Range, AreApart, with_key}
use Rattle.heap_check.specs.Image.{bounds_of}
use Rattle.heap_check.specs.Sound.{HasOther}
use Rattle.gc_check.specs.Heap.{gc_block, gc_tables}
use Rattle.gc_check.specs.Sound.{IsGcStanding, IsExtentOf}
use Rattle.gc_check.specs.Image.{IsGcExactImage, IsGcExactButImage}
use Rattle.gc_check.specs.State.{gc_blocks, gc_slabs}

-- a root gets this word, 0 for none
abbrev pub root_events : ℕ → ℕ → List Event
root_events root word = word_events (8 * root_word root) word

-- the block that a word names in an image
abbrev pub block_named : List ℕ → ℕ → Range
block_named words word = gc_block (gc_tables words).large word

-- A root without a block may get the one that a word names: it may stand where the word says, apart from all other blocks. The
-- image is exact, but that the extent in which the block lies may have no root's block.
pub record IsAttachable (words : List ℕ) (root word : ℕ) : Type 0 where
  pub rooted : root < (bounds_of words).roots
  pub none : (gc_tables words).word root ≡ 0
  pub some : word ≢ 0
  pub standing : IsGcStanding (gc_tables words) word
  pub apart : (other : ℕ) (range : Range) → gc_blocks words other ≡ Some range → AreApart range (block_named words word)
  pub start : ℕ
  pub its : IsExtentOf (gc_tables words) word start
  pub image : IsGcExactButImage words start

-- the root has this block, or none, and the image says the same of all other roots and of slabs
pub record HasRootChanged (words : List ℕ) (root : ℕ) (block : Option Range) (new : List ℕ) : Type 0 where
  pub bounds : bounds_of new ≡ bounds_of words
  pub blocks : (other : ℕ) → gc_blocks new other ≡ with_key (gc_blocks words) root block other
  pub slabs : (start : ℕ) → gc_slabs new start ≡ gc_slabs words start

-- the block came to the root, and the image is exact
pub record IsAttached (words : List ℕ) (root word : ℕ) (new : List ℕ) : Type 0 where
  pub image : IsGcExactImage new
  pub change : HasRootChanged words root (Some (block_named words word)) new

-- a root has a block, in an exact image
pub record IsDetachable (words : List ℕ) (root : ℕ) : Type 0 where
  pub rooted : root < (bounds_of words).roots
  pub some : (gc_tables words).word root ≢ 0
  pub image : IsGcExactImage words

-- The block went from the root. The image is exact, but that the extent in which the block lay may have no root's block now; where
-- another root has a block in that slab, it is exact.
pub record IsDetached (words : List ℕ) (root : ℕ) (new : List ℕ) : Type 0 where
  pub but : (start : ℕ) → IsExtentOf (gc_tables words) ((gc_tables words).word root) start → IsGcExactButImage new start
  pub exact : (start : ℕ) → IsExtentOf (gc_tables words) ((gc_tables words).word root) start → HasOther (gc_tables words) root start → IsGcExactImage new
  pub change : HasRootChanged words root None new
