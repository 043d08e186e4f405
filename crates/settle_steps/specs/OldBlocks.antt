-- The open place entry of an old block is settled: the events, when it may be, and what it leaves.
use Rattle.std.specs.Prelude.{◌≡◌, ℕ, ◌*◌, Bool, true, List, ◌++◌, None}
use Rattle.pmem_lines.specs.declared.event.Event.{Event}
use Rattle.durable_steps.specs.Steps.{word_events}
use Rattle.pool_layout.specs.Places.{wal_word}
use Rattle.image_tables.specs.declared.entry.WalEntry.TheVariants.{Place}
use Rattle.image_tables.specs.Tables.{index_word, tables_of}
use Rattle.image_tables.specs.Updates.{put_live}
use Rattle.slab_header.specs.declared.index.IndexEntry.{IndexEntry}
use Rattle.slab_header.specs.Index.{word_of_index}
use Rattle.heap_check.specs.Sound.{IsInSlab}
use Rattle.attach_steps.specs.declared.block.OldBlock.{OldBlock}
use Rattle.settle_steps.specs.Settled.{IsOpenIn, IsSettled}
use Rattle.settle_steps.specs.ClassBlocks.{is_named}

-- the block's index entry, live or not
abbrev pub entry_put : List ℕ → OldBlock → Bool → IndexEntry
entry_put words block live = record { live = live; number = ((tables_of words).header block.start).number block.place }

-- its word
abbrev pub live_put : List ℕ → OldBlock → Bool → ℕ
live_put words block live = word_of_index (entry_put words block live)

-- the live bit becomes what the root says, and then the entry is closed
abbrev pub old_block_events : List ℕ → ℕ → ℕ → OldBlock → List Event
old_block_events words line root block =
    word_events (8 * index_word block.start block.place) (live_put words block (is_named words root block.at)) ++ word_events (8 * wal_word line) 0

-- the entry of the root's old block is open, in this line, and the block lies in the slab
pub record IsOpenForOldBlock (words : List ℕ) (line root : ℕ) (block : OldBlock) : Type 0 where
  pub open_in : IsOpenIn words line (Place root block.at true block.place)
  pub inside : IsInSlab (tables_of words) block.start block.at

-- The live bit says what the root says, no entry is open, and the image says the same of all else.
pub record IsOldBlockSettled (words : List ℕ) (line root : ℕ) (block : OldBlock) (new : List ℕ) : Type 0 where
  pub settled : IsSettled words line (index_word block.start block.place) new
  pub tables : tables_of new ≡ record (put_live (tables_of words) block.start block.place (is_named words root block.at)) { open_entry = None }
