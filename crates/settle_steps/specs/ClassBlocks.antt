-- The open place entry of a block of the slab's class is settled: the events, when it may be, and what it leaves.
use Rattle.std.specs.Prelude.{◌≡◌, ◌==◌, ℕ, ◌*◌, ◌<◌, Bool, true, List, ◌++◌, None}
use Rattle.pmem_lines.specs.declared.event.Event.{Event}
use Rattle.durable_steps.specs.Steps.{word_events}
use Rattle.size_classes.specs.Classes.{class_capacity}
use Rattle.pool_layout.specs.Places.{wal_word}
use Rattle.image_tables.specs.Tables.{tables_of}
use Rattle.image_tables.specs.Updates.{put_bit}
use Rattle.heap_model.specs.Machine.{slab_block}
use Rattle.heap_check.specs.Sound.{LoosensNothing}
use Rattle.attach_steps.specs.declared.block.SmallBlock.{SmallBlock}
use Rattle.attach_steps.specs.Steps.{entry_for, bit_word, bit_put}
use Rattle.settle_steps.specs.Settled.{IsOpenIn, IsSettled}

-- a root names the address
abbrev pub is_named : List ℕ → ℕ → ℕ → Bool
is_named words root at = (tables_of words).root root == at

-- the bit becomes what the root says, and then the entry is closed
abbrev pub class_block_events : List ℕ → ℕ → ℕ → SmallBlock → List Event
class_block_events words line root block =
    word_events (8 * bit_word block) (bit_put words block (is_named words root block.at)) ++ word_events (8 * wal_word line) 0

-- the entry of the root's block is open, in this line, and the block is one of its slab's class
pub record IsOpenForBlock (words : List ℕ) (line root : ℕ) (block : SmallBlock) : Type 0 where
  pub open_in : IsOpenIn words line (entry_for root block)
  pub slab : (tables_of words).slab block.start ≡ true
  pub below : block.number < class_capacity ((tables_of words).header block.start).class
  pub at : block.at ≡ (slab_block block.start ((tables_of words).header block.start).class block.number).at

-- the bit says what the root says, no entry is open, and the image says the same of all else; nothing comes to be loose
pub record IsClassBlockSettled (words : List ℕ) (line root : ℕ) (block : SmallBlock) (new : List ℕ) : Type 0 where
  pub settled : IsSettled words line (bit_word block) new
  pub tables : tables_of new ≡ record (put_bit (tables_of words) block.start block.number (is_named words root block.at)) { open_entry = None }
  pub loose : LoosensNothing (tables_of words) (tables_of new)
