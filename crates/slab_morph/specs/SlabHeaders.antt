-- What the header of a slab says, read at a granule whether the log has a slab there or not.
use Rattle.std.specs.Prelude.{◌≡◌, ◌&&◌, nat_lt, ℕ, ◌+◌, ◌*◌, ◌/◌, ◌%◌, ◌^◌, ◌<◌, ◌≤◌, Bool, true, List, length, None}
use Rattle.pmem_lines.specs.Words.{word_at}
use Rattle.image_tables.specs.Forms.{IsStateWord}
use Rattle.image_tables.specs.Tables.{Tables, is_slab, where_slab, bit_of_word, state_word, index_word, slab_bit, tables_of, SlabHeader}
use Rattle.slab_header.specs.declared.state.SlabState.{SlabState}
use Rattle.slab_header.specs.State.{kind_of, class_of, old_of, entries_of}
use Rattle.heap_model.specs.Machine.{slab_block}
use Rattle.heap_check.specs.Sound.{IsValidSlab}

-- a byte begins a granule, and the header of a slab there lies among the words
abbrev pub IsHeaderIn : List ℕ → ℕ → Type 0
IsHeaderIn words slab = (slab % 16384 ≡ 0) × (slab + 2048 ≤ 8 * length words)

-- a field of the state word at a granule, of eight bits from this one on
abbrev pub field_at : List ℕ → ℕ → ℕ → ℕ
field_at words start bits = word_at words (state_word start) / 2 ^ bits % 2 ^ 8

-- what the header at a granule says
unfoldable pub header_at : List ℕ → ℕ → SlabHeader
header_at words start = record {
  kind = field_at words start 0;
  class = field_at words start 8;
  old = field_at words start 16;
  index_count = field_at words start 24;
  bit = λ i. nat_lt i 4096 && slab_bit words start i;
  live = λ place. nat_lt place 64 && bit_of_word (word_at words (index_word start place)) 0;
  number = λ place. where_slab (nat_lt place 64) (word_at words (index_word start place) / 2 ^ 16 % 2 ^ 16);
}

-- the tables of slabs that all have this header, and of nothing else
abbrev pub alone : SlabHeader → Tables
alone h = record {
  word = λ root. 0;
  root = λ root. 0;
  open_entry = None;
  large = λ start. 0;
  slab = λ start. true;
  header = λ start. h;
}

-- the state word of the header says this
pub record HasStateWord (h : SlabHeader) (state : SlabState) : Type 0 where
  pub kind : h.kind ≡ kind_of state
  pub class : h.class ≡ class_of state
  pub old : h.old ≡ old_of state
  pub entries : h.index_count ≡ entries_of state

-- a slab of an arena begins at this byte, and its header lies inside and is valid
pub record IsSlabHere (words : List ℕ) (slab : ℕ) : Type 0 where
  pub aligned : slab % 16384 ≡ 0
  pub small : slab / 16384 < 2 ^ 16
  pub inside : slab + 2048 ≤ 8 * length words
  pub there : is_slab words (slab / 16384) ≡ true
  pub word : IsStateWord (word_at words (state_word (slab / 16384)))
  pub valid : IsValidSlab ((tables_of words).header (slab / 16384))

-- the old block in this place of a slab's index table lives, and begins at the address
pub record IsOldAt (t : Tables) (start at place : ℕ) : Type 0 where
  pub below : place < (t.header start).index_count
  pub live : (t.header start).live place ≡ true
  pub here : (slab_block start (t.header start).old ((t.header start).number place)).at ≡ at
