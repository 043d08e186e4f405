-- A small block comes to a root, or goes from it: the events, when it may, and what it leaves.
use Rattle.std.specs.Prelude.{◌≡◌, ◌≢◌, ◌⊎◌, ℕ, ◌+◌, ◌*◌, ◌/◌, ◌%◌, ◌^◌, ◌<◌, ◌≤◌, Bool, true, false, List, ◌++◌, length, Option, Some, None}
use Rattle.pmem_lines.specs.Words.{word_at, put_word}
use Rattle.pmem_lines.specs.declared.event.Event.{Event}
use Rattle.durable_steps.specs.Steps.{word_events, pair_events}
use Rattle.size_classes.specs.Classes.{class_capacity}
use Rattle.pool_layout.specs.Places.{root_word, wal_word}
use Rattle.image_tables.specs.Forms.{morphed_kind}
use Rattle.image_tables.specs.Tables.{Tables, bitmap_word, index_word, tables_of}
use Rattle.image_tables.specs.Updates.{with_small, with_old}
use Rattle.slab_header.specs.Index.{word_of_index}
use Rattle.slab_header.specs.Steps.{with_bit}
use Rattle.image_tables.specs.declared.entry.WalEntry.{WalEntry}
use Rattle.image_tables.specs.declared.entry.WalEntry.TheVariants.{Place, Move}
use Rattle.attach_wal.specs.Entry.{entry_word}
use Rattle.heap_model.specs.Machine.{Range, slab_block}
use Rattle.heap_check.specs.Heap.{heap, IsUnusedIn}
use Rattle.heap_check.specs.Sound.{IsDoneSlab, HasOther}
use Rattle.heap_check.specs.Image.{bounds_of, IsExactImage, IsExactButImage}
use Rattle.attach_steps.specs.declared.block.SmallBlock.{SmallBlock}
use Rattle.attach_steps.specs.declared.block.OldBlock.{OldBlock}

-- events

-- a root gets this address, or 0
abbrev pub root_events : ℕ → ℕ → List Event
root_events root at = word_events (8 * root_word root) at

-- the entry of a root's block
abbrev pub entry_for : ℕ → SmallBlock → WalEntry
entry_for root block = Place root block.at false 0

-- the word of the bitmap that has the block's bit
abbrev pub bit_word : SmallBlock → ℕ
bit_word block = bitmap_word block.start block.number

-- that word with the bit set or cleared
abbrev pub bit_put : List ℕ → SmallBlock → Bool → ℕ
bit_put words block on = with_bit (word_at words (bit_word block)) (block.number / 8 % 64) on

-- the bit is set, then the root gets the address, and both are made durable
abbrev pub mark_events : List ℕ → ℕ → SmallBlock → List Event
mark_events words root block = pair_events (8 * bit_word block) (bit_put words block true) (8 * root_word root) block.at

-- the root's word becomes 0, then the bit is cleared, and both are made durable
abbrev pub unmark_events : List ℕ → ℕ → SmallBlock → List Event
unmark_events words root block = pair_events (8 * root_word root) 0 (8 * bit_word block) (bit_put words block false)

-- under an entry that is opened before and closed behind
abbrev pub under_entry : ℕ → WalEntry → List Event → List Event
under_entry line entry events = word_events (8 * wal_word line) (entry_word entry) ++ events ++ word_events (8 * wal_word line) 0

-- the block comes to the root
abbrev pub attach_events : List ℕ → ℕ → ℕ → SmallBlock → List Event
attach_events words line root block = under_entry line (entry_for root block) (mark_events words root block)

-- it goes from the root
abbrev pub detach_events : List ℕ → ℕ → ℕ → SmallBlock → List Event
detach_events words line root block = under_entry line (entry_for root block) (unmark_events words root block)

-- old blocks

-- the entry of a root's old block, which has this place in its slab's index table
abbrev pub old_entry_for : ℕ → ℕ → ℕ → WalEntry
old_entry_for root at place = Place root at true place

-- its index entry, dead
abbrev pub dead_put : Tables → ℕ → ℕ → ℕ
dead_put t start place = word_of_index (record { live = false; number = (t.header start).number place })

-- the root's word becomes 0, then the index entry is dead, and both are made durable
abbrev pub bury_events : Tables → ℕ → ℕ → ℕ → List Event
bury_events t root start place = pair_events (8 * root_word root) 0 (8 * index_word start place) (dead_put t start place)

-- the old block goes from its root
abbrev pub detach_old_events : Tables → ℕ → ℕ → ℕ → ℕ → ℕ → List Event
detach_old_events t line root at start place = under_entry line (old_entry_for root at place) (bury_events t root start place)

-- moves

-- A block moves from a root to another: under an entry, the one has its address before the other has it no more.
abbrev pub move_events : ℕ → ℕ → ℕ → ℕ → List Event
move_events line from to at =
    word_events (8 * wal_word line) (entry_word (Move from to)) ++ root_events to at ++ root_events from 0 ++ word_events (8 * wal_word line) 0

-- when a block may come or go

-- The image is exact, but that the block's slab may have no root's block, and the block is one of the slab's class.
pub record IsBlockIn (words : List ℕ) (root : ℕ) (block : SmallBlock) : Type 0 where
  pub image : IsExactButImage words block.start
  pub rooted : root < (bounds_of words).roots
  pub slab : (tables_of words).slab block.start ≡ true
  pub lively : ¬ (IsDoneSlab (tables_of words) block.start)
  pub below : block.number < class_capacity ((tables_of words).header block.start).class
  pub at : block.at ≡ (slab_block block.start ((tables_of words).header block.start).class block.number).at

-- the header of a slab and the word of a root lie inside, the root's before the slab
pub record AreInside (words : List ℕ) (root start : ℕ) : Type 0 where
  pub small : start < 2 ^ 16
  pub header : 2048 * start + 256 ≤ length words
  pub root_low : root < 2 ^ 16
  pub root_inside : root_word root < length words
  pub before : root_word root < 2048 * start

-- the block shares no byte with one that its slab holds, and the root has none
pub record IsAttachable (words : List ℕ) (root : ℕ) (block : SmallBlock) : Type 0 where
  pub block_in : IsBlockIn words root block
  pub unused : IsUnusedIn (tables_of words) block.start ((tables_of words).header block.start).class block.number
  pub none : (tables_of words).root root ≡ 0

-- the root has the block
pub record IsDetachable (words : List ℕ) (root : ℕ) (block : SmallBlock) : Type 0 where
  pub block_in : IsBlockIn words root block
  pub set : ((tables_of words).header block.start).bit block.number ≡ true
  pub named : (tables_of words).root root ≡ block.at

-- the image is exact, but for the block's slab, which took another class; the block is a live old one of it, and the root has
-- it
pub record IsOldDetachable (words : List ℕ) (root : ℕ) (block : OldBlock) : Type 0 where
  pub image : IsExactButImage words block.start
  pub rooted : root < (bounds_of words).roots
  pub slab : (tables_of words).slab block.start ≡ true
  pub kind : ((tables_of words).header block.start).kind ≡ morphed_kind
  pub below : block.place < ((tables_of words).header block.start).index_count
  pub live : ((tables_of words).header block.start).live block.place ≡ true
  pub at : block.at ≡ (slab_block block.start ((tables_of words).header block.start).old (((tables_of words).header block.start).number block.place)).at
  pub named : (tables_of words).root root ≡ block.at

-- what is left

-- the root's word is this one, or all is as before
abbrev pub PutsRootOrNot : List ℕ → ℕ → ℕ → List ℕ → Type 0
PutsRootOrNot words root at image = (image ≡ words) ⊎ (image ≡ put_word words (root_word root) at)

-- the words are the same, but for that at a place in the slab's header, the root's and the line's
pub record KeepsAllButBlock (words : List ℕ) (line root place : ℕ) (image : List ℕ) : Type 0 where
  pub same_length : length image ≡ length words
  pub others : (k : ℕ) → k ≢ wal_word line → k ≢ place → k ≢ root_word root → word_at image k ≡ word_at words k

-- the heap is the same, but that the root has this block or none
pub record GivesOne (words : List ℕ) (root : ℕ) (given : Option Range) (new : List ℕ) : Type 0 where
  pub here : heap (tables_of new) root ≡ given
  pub others : (other : ℕ) → other ≢ root → heap (tables_of new) other ≡ heap (tables_of words) other

-- the root has the block, and the image is exact
pub record IsAttached (words : List ℕ) (line root : ℕ) (block : SmallBlock) (new : List ℕ) : Type 0 where
  pub exact : IsExactImage new
  pub bounds : bounds_of new ≡ bounds_of words
  pub tables : tables_of new ≡ with_small (tables_of words) block.start block.number true root block.at None
  pub gives : GivesOne words root (Some (slab_block block.start ((tables_of words).header block.start).class block.number)) new
  pub rest : KeepsAllButBlock words line root (bit_word block) new

-- the root has no block, and the image is exact, but that the slab may have no other root's block
pub record IsDetached (words : List ℕ) (line root : ℕ) (block : SmallBlock) (new : List ℕ) : Type 0 where
  pub image : IsExactButImage new block.start
  pub exact : HasOther (tables_of words) root block.start → IsExactImage new
  pub bounds : bounds_of new ≡ bounds_of words
  pub tables : tables_of new ≡ with_small (tables_of words) block.start block.number false root 0 None
  pub gives : GivesOne words root None new
  pub rest : KeepsAllButBlock words line root (bit_word block) new

-- the root has no block and the old one is dead; the image is exact, but that the slab may have no other root's block, or no
-- other live old one
pub record IsOldDetached (words : List ℕ) (line root : ℕ) (block : OldBlock) (new : List ℕ) : Type 0 where
  pub image : IsExactButImage new block.start
  pub exact : HasOther (tables_of words) root block.start → ¬ (IsDoneSlab (tables_of new) block.start) → IsExactImage new
  pub bounds : bounds_of new ≡ bounds_of words
  pub tables : tables_of new ≡ with_old (tables_of words) block.start block.place false root 0 None
  pub gives : GivesOne words root None new
  pub rest : KeepsAllButBlock words line root (index_word block.start block.place) new
