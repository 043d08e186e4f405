-- The steps on the header of a slab: their events, and what they leave. A slab is named by the granule at which it
-- begins, `start`, or by its first byte, `at`.
use Rattle.std.specs.Prelude.{◌≡◌, ◌≢◌, ◌⊎◌, ℕ, ◌+◌, ◌-◌, ◌/◌, ◌%◌, ◌^◌, ◌<◌, ◌≤◌, Bool, true, false, List, [], ◌∷◌, ◌++◌, length, if◌then◌else◌}
use Rattle.pmem_lines.specs.Words.{word_at, put_word, zeros}
use Rattle.pmem_lines.specs.declared.event.Event.{Event}
use Rattle.pmem_lines.specs.declared.event.Event.TheVariants.{Store, Flush, Fence}
use Rattle.durable_steps.specs.Rows.{stores_at, flushes_of}
use Rattle.pool_layout.specs.Layout.{layout_of}
use Rattle.pool_layout.specs.Places.{granule_word}
use Rattle.pool_layout.specs.Header.{version_in}
use Rattle.image_tables.specs.Tables.{is_slab, AreSlabsInHeap, state_word, bitmap_word, index_word, bit_of_word, slab_bit, tables_of}
use Rattle.image_tables.specs.Updates.{put_bit, put_index}
use Rattle.slab_header.specs.declared.state.SlabState.TheVariants.{Normal}
use Rattle.slab_header.specs.declared.index.IndexEntry.{IndexEntry}
use Rattle.slab_header.specs.State.{word_of_state, SaysOfState}
use Rattle.slab_header.specs.Index.{word_of_index, SaysOfIndex}

-- how many lines of a slab's header the making of it writes: that of the state word, and those of the bitmap
unfoldable pub made_lines : ℕ
made_lines = 9

-- how many words the bitmap has
unfoldable pub bitmap_words : ℕ
bitmap_words = 64

-- a slab is made: the bitmap is cleared, the state word says Normal, and both are made durable by one fence
abbrev pub make_events : ℕ → ℕ → List Event
make_events at class =
    stores_at (at + 64) (zeros bitmap_words) ++ Store at (word_of_state (Normal class)) ∷ [] ++ flushes_of (at / 64) made_lines ++ Fence ∷ []

-- a word is put and its line flushed; a fence behind it makes it durable
abbrev pub put_events : ℕ → ℕ → List Event
put_events at value = Store at value ∷ Flush (at / 64) ∷ []

-- a word with one bit set or cleared
abbrev pub with_bit : ℕ → ℕ → Bool → ℕ
with_bit word bit on =
    if on then (if bit_of_word word bit then word else word + 2 ^ bit)
    else (if bit_of_word word bit then word - 2 ^ bit else word)

-- a word that the making of a slab leaves as it is
abbrev pub IsOutside : ℕ → ℕ → Type 0
IsOutside start k = (k < granule_word start) ⊎ (granule_word start + 72 ≤ k)

-- All outside the state word's line and the bitmap of a slab is as before. Where no slab begins there, so is all that
-- the words say.
pub record KeepsOutside (words : List ℕ) (start : ℕ) (image : List ℕ) : Type 0 where
  pub same_length : length image ≡ length words
  pub others : (k : ℕ) → IsOutside start k → word_at image k ≡ word_at words k
  pub tables : (layout_of (version_in words)).first_granule ≤ start → is_slab words start ≡ false → tables_of image ≡ tables_of words

-- a slab of the class is made: its state word says Normal, its bitmap is clear, and all outside is as before
pub record IsMade (words new : List ℕ) (start class : ℕ) : Type 0 where
  pub kept : KeepsOutside words start new
  pub state : word_at new (state_word start) ≡ word_of_state (Normal class)
  pub says : SaysOfState (word_at new (state_word start)) (Normal class)
  pub clear : (i : ℕ) → i < 4096 → word_at new (bitmap_word start i) ≡ 0
  pub bits : (i : ℕ) → i < 4096 → slab_bit new start i ≡ false

-- One block's bit is set or cleared. For a slab of an arena that is all that changes of what the words say.
pub record PutsBit (words new : List ℕ) (start i : ℕ) (on : Bool) : Type 0 where
  pub here : slab_bit new start i ≡ on
  pub others : (j : ℕ) → j < 4096 → j ≢ i → slab_bit new start j ≡ slab_bit words start j
  pub tables : AreSlabsInHeap words → is_slab words start ≡ true → tables_of new ≡ put_bit (tables_of words) start i on

-- The store puts the bit over any words that have the same word there: so it does where a crash keeps it, and of the
-- other stores some.
pub record PutsBitOver (words : List ℕ) (start i : ℕ) (on : Bool) : Type 0 where
  pub each : (image : List ℕ) → length image ≡ length words → word_at image (bitmap_word start i) ≡ word_at words (bitmap_word start i) →
      PutsBit image (put_word image (bitmap_word start i) (with_bit (word_at words (bitmap_word start i)) (i / 8 % 64) on)) start i on

-- A place of the index table has the entry. For a slab of an arena that is all that changes of what the words say.
pub record PutsIndex (words new : List ℕ) (start place : ℕ) (entry : IndexEntry) : Type 0 where
  pub says : SaysOfIndex (word_at new (index_word start place)) entry
  pub tables : AreSlabsInHeap words → is_slab words start ≡ true → tables_of new ≡ put_index (tables_of words) start place entry.live entry.number

-- the store puts the entry over any words
pub record PutsIndexOver (words : List ℕ) (start place : ℕ) (entry : IndexEntry) : Type 0 where
  pub each : (image : List ℕ) → length image ≡ length words → PutsIndex image (put_word image (index_word start place) (word_of_index entry)) start place entry
