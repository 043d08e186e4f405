-- What the words of an arena say, table by table. Nothing here knows what follows from it: whether an image is sound is
-- stated over the tables alone. Each table has exactly what is read: nothing of a granule at which no slab begins, bits
-- and places of the index table below what the header of a slab can hold.
use Rattle.std.specs.Prelude.{◌≡◌, ◌==◌, ◌&&◌, nat_lt, ℕ, zero, suc, ◌+◌, ◌/◌, ◌%◌, ◌^◌, ◌≤◌, Bool, true, false, List, Option, Some, None, if◌then◌else◌}
use Rattle.pmem_lines.specs.Words.{word_at}
use Rattle.pool_layout.specs.Layout.{layout_of}
use Rattle.pool_layout.specs.Places.{root_word, wal_word, granule_word, line_place, index_place}
use Rattle.pool_layout.specs.Header.{version_in}
use Rattle.image_tables.specs.declared.entry.WalEntry.{WalEntry}
use Rattle.image_tables.specs.declared.entry.WalEntry.TheVariants.{Place, Move}
use Rattle.image_tables.specs.declared.extent.Extent.{Extent}
use Rattle.image_tables.specs.declared.extent.Extent.TheVariants.{Large, Slab}
use Rattle.image_tables.specs.Extents.{extent_at}

-- what the header of a slab says
pub record SlabHeader : Type 0 where
  -- the kind of the state, the class, the class before, and how many index entries are read
  pub kind : ℕ
  pub class : ℕ
  pub old : ℕ
  pub index_count : ℕ
  -- the bit of block i
  pub bit : ℕ → Bool
  -- the index table, by place: whether the old block lives, and its number
  pub live : ℕ → Bool
  pub number : ℕ → ℕ

pub record Tables : Type 0 where
  -- the root words
  pub word : ℕ → ℕ
  -- what each root holds: its word, or 0 where it is not held
  pub root : ℕ → ℕ
  -- the open write-ahead entry
  pub open_entry : Option WalEntry
  -- how many granules the live large extent has that starts at a granule, 0 where none starts
  pub large : ℕ → ℕ
  -- a live slab starts at the granule
  pub slab : ℕ → Bool
  -- the header of the slab that starts at a granule
  pub header : ℕ → SlabHeader

-- the bits of all slabs, and their index tables
abbrev pub bit_rows : Tables → ℕ → ℕ → Bool
bit_rows t start = (t.header start).bit

abbrev pub live_rows : Tables → ℕ → ℕ → Bool
live_rows t start = (t.header start).live

abbrev pub number_rows : Tables → ℕ → ℕ → ℕ
number_rows t start = (t.header start).number

-- extents

abbrev pub large_of : Option Extent → ℕ
large_of None = 0
large_of (Some (Large granules)) = granules
large_of (Some Slab) = 0

abbrev pub is_slab_of : Option Extent → Bool
is_slab_of None = false
is_slab_of (Some (Large granules)) = false
is_slab_of (Some Slab) = true

-- a slab begins at the granule
abbrev pub is_slab : List ℕ → ℕ → Bool
is_slab words start = is_slab_of (extent_at words start)

-- the slabs begin in the heap
pub record AreSlabsInHeap (words : List ℕ) : Type 0 where
  pub low : (start : ℕ) → is_slab words start ≡ true → (layout_of (version_in words)).first_granule ≤ start

-- the open entry

-- the entry of a word that is not 0: bit 2 tells a move entry from a place entry
unfoldable pub entry_of_word : ℕ → WalEntry
entry_of_word word =
    if word / 2 ^ 2 % 2 == 1 then Move (word / 2 ^ 16 % 2 ^ 16) (word / 2 ^ 32 % 2 ^ 16)
    else Place (word / 2 ^ 16 % 2 ^ 16) (word / 2 ^ 32) (word / 2 % 2 == 1) (word / 2 ^ 8 % 2 ^ 8)

-- how many write-ahead lines there are
unfoldable pub wal_lines : ℕ
wal_lines = 8

-- the entry among the first n write-ahead lines, of which one at most has one
abbrev pub entry_among : (ℕ → ℕ) → ℕ → Option WalEntry
entry_among row zero = None
entry_among row (suc n) = if row n == 0 then entry_among row n else Some (entry_of_word (row n))

-- the open entry of an arena of these words
abbrev pub open_entry_in : List ℕ → Option WalEntry
open_entry_in words = entry_among (λ line. word_at words (wal_word line)) wal_lines

-- roots

-- What each root holds, by the open entry and the root words. A root is held where its word is not 0, but for the one
-- that an open move entry moves from, once the other has a word. So a block that moves is held by one root at a time.
abbrev pub held_of : Option WalEntry → (ℕ → ℕ) → ℕ → ℕ
held_of None word root = word root
held_of (Some (Place named at old place)) word root = word root
held_of (Some (Move from to)) word root = if (root == from) && nat_lt 0 (word to) then 0 else word root

-- the word of each root of an arena of these words
abbrev pub root_in : List ℕ → ℕ → ℕ
root_in words root = if nat_lt root (layout_of (version_in words)).roots then word_at words (root_word root) else 0

-- slabs

-- a number, where there is a slab, and 0 else
abbrev pub where_slab : Bool → ℕ → ℕ
where_slab slab number = if slab then number else 0

-- bit k of a word
unfoldable pub bit_of_word : ℕ → ℕ → Bool
bit_of_word word k = word / 2 ^ k % 2 == 1

-- the state word of the slab at a granule
abbrev pub state_word : ℕ → ℕ
state_word start = granule_word start + line_place 0 0

-- the word that has the bit of block i: lines 1 to 8 of the header take the blocks in turn
abbrev pub bitmap_word : ℕ → ℕ → ℕ
bitmap_word start i = granule_word start + line_place (1 + i % 8) (i / 8 / 64)

-- the word of a place of the index table
abbrev pub index_word : ℕ → ℕ → ℕ
index_word start place = granule_word start + index_place place

-- the bit of block i in the header at a granule, whether a slab begins there or not
abbrev pub slab_bit : List ℕ → ℕ → ℕ → Bool
slab_bit words start i = bit_of_word (word_at words (bitmap_word start i)) (i / 8 % 64)

abbrev pub bit_at : List ℕ → ℕ → ℕ → Bool
bit_at words start i = is_slab words start && (nat_lt i 4096 && slab_bit words start i)

abbrev pub live_at : List ℕ → ℕ → ℕ → Bool
live_at words start place = is_slab words start && (nat_lt place 64 && bit_of_word (word_at words (index_word start place)) 0)

abbrev pub number_at : List ℕ → ℕ → ℕ → ℕ
number_at words start place = where_slab (is_slab words start && nat_lt place 64) (word_at words (index_word start place) / 2 ^ 16 % 2 ^ 16)

-- a field of the state word, of eight bits from this one on
abbrev pub state_field : List ℕ → ℕ → ℕ → ℕ
state_field words start bits = where_slab (is_slab words start) (word_at words (state_word start) / 2 ^ bits % 2 ^ 8)

-- what the header of the slab at a granule says, and nothing of a granule at which none begins
abbrev pub slab_header : List ℕ → ℕ → SlabHeader
slab_header words start = record {
  kind = state_field words start 0;
  class = state_field words start 8;
  old = state_field words start 16;
  index_count = state_field words start 24;
  bit = bit_at words start;
  live = live_at words start;
  number = number_at words start;
}

-- what the words of an arena say
unfoldable pub tables_of : List ℕ → Tables
tables_of words = record {
  word = root_in words;
  root = held_of (open_entry_in words) (root_in words);
  open_entry = open_entry_in words;
  large = λ start. large_of (extent_at words start);
  slab = is_slab words;
  header = slab_header words;
}
