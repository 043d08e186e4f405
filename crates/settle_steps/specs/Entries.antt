-- An open entry of either kind is settled: the events, what is asked of its slab, and what it leaves.
use Rattle.std.specs.Prelude.{◌≡◌, ℕ, ◌+◌, ◌-◌, ◌*◌, ◌/◌, List, None, if◌then◌else◌}
use Rattle.pmem_lines.specs.declared.event.Event.{Event}
use Rattle.size_classes.specs.Classes.{class_size}
use Rattle.image_tables.specs.declared.entry.WalEntry.{WalEntry}
use Rattle.image_tables.specs.declared.entry.WalEntry.TheVariants.{Place, Move}
use Rattle.pool_layout.specs.Places.{root_word}
use Rattle.image_tables.specs.Tables.{Tables, index_word, tables_of}
use Rattle.image_tables.specs.Updates.{put_at, put_bit, put_live}
use Rattle.heap_check.specs.Sound.{IsInSlab}
use Rattle.attach_steps.specs.declared.block.SmallBlock.{SmallBlock}
use Rattle.attach_steps.specs.Steps.{bit_word}
use Rattle.attach_steps.specs.declared.block.OldBlock.{OldBlock}
use Rattle.settle_steps.specs.Settled.{IsSettled}
use Rattle.settle_steps.specs.ClassBlocks.{is_named, class_block_events}
use Rattle.settle_steps.specs.Moves.{both_named, move_events}
use Rattle.settle_steps.specs.OldBlocks.{old_block_events}

-- the number of the block at an address, among those of the slab's class
abbrev pub number_at : Tables → ℕ → ℕ → ℕ
number_at t start at = (at - (16384 * start + 2048)) / class_size (t.header start).class

-- that block, and the old one in a place of the index table
abbrev pub class_block : Tables → ℕ → ℕ → SmallBlock
class_block t start at = record { start = start; number = number_at t start at; at = at }

abbrev pub old_block : ℕ → ℕ → ℕ → OldBlock
old_block start place at = record { start = start; place = place; at = at }

-- what is stored for an entry, of which the block lies in the slab at a granule
abbrev pub settle_events : List ℕ → ℕ → ℕ → WalEntry → List Event
settle_events words line start (Place root at old place) =
    if old then old_block_events words line root (old_block start place at)
    else class_block_events words line root (class_block (tables_of words) start at)
settle_events words line start (Move from to) = move_events words line from to

-- the tables once it is settled
abbrev pub settled_tables : List ℕ → ℕ → WalEntry → Tables
settled_tables words start (Place root at old place) =
    if old then record (put_live (tables_of words) start place (is_named words root at)) { open_entry = None }
    else record (put_bit (tables_of words) start (number_at (tables_of words) start at) (is_named words root at)) { open_entry = None }
settled_tables words start (Move from to) =
    record (tables_of words) { word = if both_named words from to then put_at (tables_of words).word from 0 else (tables_of words).word; open_entry = None }

-- the word that is put for an entry
abbrev pub settled_word : Tables → ℕ → WalEntry → ℕ
settled_word t start (Place root at old place) = if old then index_word start place else bit_word (class_block t start at)
settled_word t start (Move from to) = root_word from

-- the block of a place entry lies in the slab at the granule
abbrev pub LiesInSlab : Tables → ℕ → WalEntry → Type 0
LiesInSlab t start (Place root at old place) = IsInSlab t start at
LiesInSlab t start (Move from to) = Unit {0}

-- no entry is open, the image is steady with the same heap, and its tables are these
pub record IsEntrySettled (words : List ℕ) (line start : ℕ) (entry : WalEntry) (new : List ℕ) : Type 0 where
  pub settled : IsSettled words line (settled_word (tables_of words) start entry) new
  pub tables : tables_of new ≡ settled_tables words start entry
