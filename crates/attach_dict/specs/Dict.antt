-- The dictionary of an image. Each pair has a block of its own: word 0 has the key, word 1 a number, word 2 how many words the
-- value has, and then come these. Root 0 is the stage, where a block is made ready; the block of each other root is a pair, and
-- of the pairs with one key the one with the greatest number counts.
use Rattle.std.specs.Prelude.{◌≡◌, ◌≢◌, ◌⊎◌, ◌==◌, ℕ, ◌+◌, ◌*◌, ◌/◌, ◌-◌, ◌^◌, ◌<◌, ◌≤◌, List, [], ◌∷◌, length, slice_index, Option, Some, None, if◌then◌else◌}
use Rattle.pmem_lines.specs.Words.{word_at}
use Rattle.image_tables.specs.Tables.{tables_of}
use Rattle.heap_model.specs.Machine.{Range}
use Rattle.heap_check.specs.Heap.{heap}
use Rattle.heap_check.specs.Image.{bounds_of, IsSteadyImage}
use Rattle.heap_check.specs.State.{HaveSameHeap, KeepsBlocks}
use Rattle.image_defects.specs.Least.{IsLeast}

-- a key and its value
pub record Pair : Type 0 where
  pub key : ℕ
  pub value : List ℕ

-- the root whose block is made ready
abbrev pub stage : ℕ
stage = 0

-- how many words a block has before the value
abbrev pub head_words : ℕ
head_words = 3

-- the most words of a value: a block is written in one call, which takes 512 words
abbrev pub most_values : ℕ
most_values = 509

-- how many bytes a value of so many words takes
abbrev pub bytes_for : ℕ → ℕ
bytes_for count = 24 + 8 * count

-- blocks

-- the root names a block
pub record HasSome (words : List ℕ) (root : ℕ) : Type 0 where
  pub range : Range
  pub named : heap (tables_of words) root ≡ Some range

-- the root names none
abbrev pub HasNone : List ℕ → ℕ → Type 0
HasNone words root = heap (tables_of words) root ≡ None

-- the block of a root has this key, this number and this value
pub record HasPair (words : List ℕ) (root key number : ℕ) (value : List ℕ) : Type 0 where
  pub range : Range
  pub named : heap (tables_of words) root ≡ Some range
  pub few : length value ≤ most_values
  pub wide : bytes_for (length value) ≤ range.size
  pub key_is : word_at words (range.at / 8) ≡ key
  pub number_is : word_at words (range.at / 8 + 1) ≡ number
  pub count_is : word_at words (range.at / 8 + 2) ≡ length value
  pub each : (i : ℕ) → i < length value → word_at words (range.at / 8 + head_words + i) ≡ slice_index value i

-- the same of a root that is not the stage
pub record IsPair (words : List ℕ) (root key number : ℕ) (value : List ℕ) : Type 0 where
  pub low : stage < root
  pub has : HasPair words root key number value

-- the block of a root counts for a key: no other one with the key has a greater number
pub record Counts (words : List ℕ) (root key : ℕ) (value : List ℕ) : Type 0 where
  pub number : ℕ
  pub pair : IsPair words root key number value
  pub greatest : (other n : ℕ) (v : List ℕ) → IsPair words other key n v → n ≤ number

-- images that are no dictionary

-- the block of a root is a pair, and no lower root has one with its key and its number
pub record IsFit (words : List ℕ) (root : ℕ) : Type 0 where
  pub key : ℕ
  pub number : ℕ
  pub value : List ℕ
  pub pair : IsPair words root key number value
  pub once : (lower : ℕ) (v : List ℕ) → lower < root → ¬ (IsPair words lower key number v)

-- it is none
pub record IsMisfit (words : List ℕ) (root : ℕ) : Type 0 where
  pub low : stage < root
  pub some : HasSome words root
  pub unfit : ¬ (IsFit words root)

-- the lowest such root, by which an arena is refused
abbrev pub IsNotDict : List ℕ → ℕ → Type 0
IsNotDict words root = IsLeast (IsMisfit words) root

-- maps

-- the value of a key
unfoldable pub value_of : List Pair → ℕ → Option (List ℕ)
value_of [] key = None
value_of (pair ∷ pairs) key = if pair.key == key then Some pair.value else value_of pairs key

-- each key is above this one
abbrev pub AreAbove : ℕ → List Pair → Type 0
AreAbove low [] = Unit {0}
AreAbove low (pair ∷ pairs) = (low < pair.key) × AreAbove low pairs

-- the pairs go by rising key
abbrev pub AreRising : List Pair → Type 0
AreRising [] = Unit {0}
AreRising (pair ∷ pairs) = AreAbove pair.key pairs × AreRising pairs

-- what counts for a key, if anything does
abbrev pub IsValueOf : List ℕ → ℕ → Option (List ℕ) → Type 0
IsValueOf words key None = (root number : ℕ) (value : List ℕ) → ¬ (IsPair words root key number value)
IsValueOf words key (Some value) = (root : ℕ) × Counts words root key value

-- The image is a dictionary, and these are its pairs, by rising key: the block of each root but the stage is fit, and the value
-- of each key is the one that counts.
pub record IsDict (words : List ℕ) (pairs : List Pair) : Type 0 where
  pub fit : (root : ℕ) → stage < root → HasSome words root → IsFit words root
  pub rising : AreRising pairs
  pub each : (key : ℕ) → IsValueOf words key (value_of pairs key)

-- of two maps the second has this value, or none, for a key, and for each other one what the first has
pub record Puts (old : List Pair) (key : ℕ) (value : Option (List ℕ)) (new : List Pair) : Type 0 where
  pub here : value_of new key ≡ value
  pub others : (other : ℕ) → other ≢ key → value_of new other ≡ value_of old other

-- stale roots

-- the block of a root but the stage does not count
pub record IsStaleRoot (words : List ℕ) (root : ℕ) : Type 0 where
  pub low : stage < root
  pub some : HasSome words root
  pub less : (key : ℕ) (value : List ℕ) → ¬ (Counts words root key value)

-- numbers

-- the greatest number of a pair
pub record IsGreatest (words : List ℕ) (number : ℕ) : Type 0 where
  pub root : ℕ
  pub key : ℕ
  pub value : List ℕ
  pub pair : IsPair words root key number value
  pub most : (other k n : ℕ) (v : List ℕ) → IsPair words other k n v → n ≤ number

-- the number of a new pair: the greatest and one, or 1 where there is no pair
abbrev pub IsNextNumber : List ℕ → ℕ → Type 0
IsNextNumber words number =
    ((greatest : ℕ) × IsGreatest words greatest × (number ≡ greatest + 1)) ⊎ (((root key n : ℕ) (value : List ℕ) → ¬ (IsPair words root key n value)) × (number ≡ 1))

-- no pair has a number above this one
pub record AreNumbersUpTo (words : List ℕ) (most : ℕ) : Type 0 where
  pub each : (root key number : ℕ) (value : List ℕ) → IsPair words root key number value → number ≤ most

-- the greatest number is that of the type's end
abbrev pub AreNumbersSpent : List ℕ → Type 0
AreNumbersSpent words = IsGreatest words (2 ^ 64 - 1)

-- roots

-- the lowest root but the stage that names no block
pub record IsFreeRoot (words : List ℕ) (root : ℕ) : Type 0 where
  pub low : stage < root
  pub high : root < (bounds_of words).roots
  pub none : HasNone words root
  pub least : (other : ℕ) → stage < other → other < root → HasSome words other

-- every root but the stage names one
pub record IsFull (words : List ℕ) : Type 0 where
  pub each : (root : ℕ) → stage < root → root < (bounds_of words).roots → HasSome words root

-- crashes and laws

-- a steady image, which can be recovered, and it is the dictionary of these pairs
pub record IsSteadyDict (pairs : List Pair) (image : List ℕ) : Type 0 where
  pub steady : IsSteadyImage image
  pub dict : IsDict image pairs

-- an image is the dictionary of one list of pairs at most
abbrev pub LawOfDicts : Type 0
LawOfDicts = (words : List ℕ) (pairs others : List Pair) → IsDict words pairs → IsDict words others → pairs ≡ others

-- Where the heap and the words of blocks stay, so does the dictionary: as in recovery, which promises both.
abbrev pub LawOfKeptDicts : Type 0
LawOfKeptDicts = (words image : List ℕ) (pairs : List Pair) → HaveSameHeap words image → KeepsBlocks words image → IsDict words pairs → IsDict image pairs
