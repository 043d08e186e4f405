-- How marks are kept: as the bits of words, 16 words a granule. And ranges of such a set of numbers.
use Rattle.std.specs.Prelude.{◌≡◌, ◌≢◌, ◌==◌, ◌⊎◌, ℕ, ◌+◌, ◌*◌, ◌/◌, ◌<◌, ◌≤◌, map, Bool, true, List, length}
use Rattle.std.specs.Int.{bit_at}
use Rattle.std.specs.List.{range_with_len}
use Rattle.bit_words.specs.Numbers.{has}
use Rattle.size_classes.specs.Classes.{class_size, class_capacity}
use Rattle.unit_map.specs.declared.block_row.BlockRow.{BlockRow}
use Rattle.unit_map.specs.Units.{Units}

-- a mark for each number that words have a bit for
unfoldable pub marks_of : List ℕ → List Bool
marks_of words = map (has words) (range_with_len 0 (64 * length words))

-- the units that words say
abbrev pub units_of : List ℕ → Units
units_of words = record { granules = length words / 16; marks = marks_of words }

-- they are those of an arena: 16 for each granule
pub record AreWords (words : List ℕ) : Type 0 where
  pub whole : length words ≡ 16 * (length words / 16)
  pub most : length words ≤ 65536

-- ranges

-- the mask has the bits of word `at` whose numbers lie in a range
pub record IsMask (at from end mask : ℕ) : Type 0 where
  pub inside : (bit : ℕ) → bit < 64 → from ≤ 64 * at + bit → 64 * at + bit < end → bit_at mask bit ≡ 1
  pub outside : (bit : ℕ) → bit < 64 → (64 * at + bit < from) ⊎ (end ≤ 64 * at + bit) → bit_at mask bit ≡ 0

-- a word is another with the bits of a mask set or cleared
pub record IsMasked (old mask : ℕ) (on : Bool) (new : ℕ) : Type 0 where
  pub these : (bit : ℕ) → bit < 64 → bit_at mask bit ≡ 1 → (bit_at new bit == 1) ≡ on
  pub others : (bit : ℕ) → bit < 64 → bit_at mask bit ≡ 0 → bit_at new bit ≡ bit_at old bit

-- a set is another with a range of numbers put in or out
pub record IsRangePut (old : List ℕ) (from end : ℕ) (on : Bool) (new : List ℕ) : Type 0 where
  pub size : length new ≡ length old
  pub these : (k : ℕ) → from ≤ k → k < end → has new k ≡ on
  pub others : (k : ℕ) → (k < from) ⊎ (end ≤ k) → has new k ≡ has old k

-- a word's bits whose numbers lie in a range and are in the set, or are not
pub record IsPart (word at from end : ℕ) (on : Bool) (part : ℕ) : Type 0 where
  pub low : (bit : ℕ) → bit < 64 → bit_at part bit ≡ 1 → from ≤ 64 * at + bit
  pub high : (bit : ℕ) → bit < 64 → bit_at part bit ≡ 1 → 64 * at + bit < end
  pub is : (bit : ℕ) → bit < 64 → bit_at part bit ≡ 1 → (bit_at word bit == 1) ≡ on
  pub rest : (bit : ℕ) → bit < 64 → bit_at part bit ≡ 0 → from ≤ 64 * at + bit → 64 * at + bit < end → (bit_at word bit == 1) ≢ on

-- no number of a range is in the set, or each is
pub record HasNone (words : List ℕ) (from end : ℕ) (on : Bool) : Type 0 where
  pub none : (k : ℕ) → from ≤ k → k < end → has words k ≢ on

-- the lowest number of a range that is in the set, or is not
pub record IsFirst (words : List ℕ) (from end : ℕ) (on : Bool) (k : ℕ) : Type 0 where
  pub low : from ≤ k
  pub high : k < end
  pub is : has words k ≡ on
  pub first : (j : ℕ) → from ≤ j → j < k → has words j ≢ on

-- the same for the numbers of a range that word `at` is for
pub record HasNoneInWord (words : List ℕ) (at from end : ℕ) (on : Bool) : Type 0 where
  pub none : (k : ℕ) → from ≤ k → k < end → k / 64 ≡ at → has words k ≢ on

pub record IsFirstInWord (words : List ℕ) (at from end : ℕ) (on : Bool) (k : ℕ) : Type 0 where
  pub low : from ≤ k
  pub high : k < end
  pub place : k / 64 ≡ at
  pub is : has words k ≡ on
  pub first : (j : ℕ) → from ≤ j → j < k → j / 64 ≡ at → has words j ≢ on

-- blocks in a row

-- the row is that of the blocks of class c in the slab at s, as units
pub record AreBlocksOf (s c : ℕ) (row : BlockRow) : Type 0 where
  pub first : row.first ≡ 1024 * s + 128
  pub units : class_size c ≡ 16 * row.units
  pub some : 0 < row.units
  pub count : row.count ≡ class_capacity c
  pub within : row.first + row.count * row.units ≤ 1024 * (s + 4)

-- block i has no number of the set
abbrev pub IsFree : List ℕ → BlockRow → ℕ → Type 0
IsFree words row i = HasNone words (row.first + i * row.units) (row.first + i * row.units + row.units) true

-- every block at or above a number has one
pub record HasNoFree (words : List ℕ) (row : BlockRow) (from : ℕ) : Type 0 where
  pub none : (i : ℕ) → from ≤ i → i < row.count → ¬ (IsFree words row i)

-- the lowest block at or above a number that has none
pub record IsFirstFree (words : List ℕ) (row : BlockRow) (from number : ℕ) : Type 0 where
  pub low : from ≤ number
  pub within : number < row.count
  pub free : IsFree words row number
  pub first : (i : ℕ) → from ≤ i → i < number → ¬ (IsFree words row i)

-- no block at or above a number has one
pub record HasNoHeld (words : List ℕ) (row : BlockRow) (from : ℕ) : Type 0 where
  pub none : (i : ℕ) → from ≤ i → i < row.count → IsFree words row i

-- the lowest block at or above a number that has one
pub record IsFirstHeld (words : List ℕ) (row : BlockRow) (from number : ℕ) : Type 0 where
  pub low : from ≤ number
  pub within : number < row.count
  pub held : ¬ (IsFree words row number)
  pub first : (i : ℕ) → from ≤ i → i < number → IsFree words row i
