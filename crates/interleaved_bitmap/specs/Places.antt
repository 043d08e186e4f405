-- Where the bit of a block lies in a header, and what a header says of a block.
use Rattle.std.specs.Prelude.{◌≡◌, ◌≢◌, ◌==◌, ◌&&◌, ℕ, ◌+◌, ◌*◌, ◌/◌, ◌%◌, ◌<◌, Bool, List, length, slice_index, slice_set}
use Rattle.interleaved_bitmap.specs.Bits.{is_set}

-- the line of the header
abbrev pub line_of_bit : ℕ → ℕ
line_of_bit i = 1 + i % 8

-- the bit in that line
abbrev pub bit_in_line : ℕ → ℕ
bit_in_line i = i / 8

-- the word of the header
abbrev pub word_of_bit : ℕ → ℕ
word_of_bit i = 8 * line_of_bit i + bit_in_line i / 64

-- the bit in that word
abbrev pub bit_in_word : ℕ → ℕ
bit_in_word i = bit_in_line i % 64

-- a block's bit is set in a header
unfoldable pub bit_of_header : List ℕ → ℕ → Bool
bit_of_header header i = is_set (slice_index header (word_of_bit i)) (bit_in_word i)

-- a word at its place in a header has the bit of a block, and it is set
unfoldable pub is_marked : ℕ → ℕ → ℕ → Bool
is_marked place word i = word_of_bit i == place && is_set word (bit_in_word i)

-- a header is another with one block's bit set or cleared
pub record IsHeaderWithBit (old : List ℕ) (i : ℕ) (on : Bool) (new : List ℕ) : Type 0 where
  pub here : bit_of_header new i ≡ on
  pub others : (j : ℕ) → j < 4096 → j ≢ i → bit_of_header new j ≡ bit_of_header old j

-- in each header of 256 words the word, put in the place of the one that has the bit of a block, sets or clears that bit
pub record PutsBit (old bit : ℕ) (on : Bool) (new : ℕ) : Type 0 where
  pub at : (header : List ℕ) (i : ℕ) → length header ≡ 256 → i < 4096 → slice_index header (word_of_bit i) ≡ old → bit_in_word i ≡ bit →
      IsHeaderWithBit header i on (slice_set header (word_of_bit i) new)

-- two blocks are less than eight apart, and not the same
pub record AreNear (i j : ℕ) : Type 0 where
  pub apart : i ≢ j
  pub before : i < j + 8
  pub behind : j < i + 8

-- the line has the bit of this block and of no block near it
pub record IsAlone (i line : ℕ) : Type 0 where
  pub near : (j : ℕ) → AreNear i j → line ≢ line_of_bit j
