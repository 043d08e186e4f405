-- What a dictionary keeps beside its arena, and how it is seen: its map and its phase are read off the image.
use Rattle.std.specs.Prelude.{◌≡◌, ◌≢◌, ℕ, ◌+◌, ◌/◌, ◌<◌, ◌≤◌, List, length, map, slice_index, None, Some}
use Rattle.pmem_lines.specs.Words.{word_at, words_at}
use Rattle.image_tables.specs.Tables.{tables_of}
use Rattle.heap_check.specs.Image.{bounds_of}
use Rattle.dict_index.specs.declared.key_map.Keyed.{Keyed}
use Rattle.dict_index.specs.KeyRoots.{KeyRoots, IsKeyed, IsKeyMap}
use Rattle.attach_dict.specs.declared.index.DictIndex.{DictIndex}
use Rattle.attach_dict.specs.declared.progress.Progress.{Progress}
use Rattle.attach_dict.specs.declared.progress.Progress.TheVariants as stages
use Rattle.attach_dict.specs.Dict.{Pair, stage, head_words, HasNone, IsPair, Counts, value_of}
use Rattle.attach_dict.specs.Roots.{Roots, IsIn}
use Rattle.attach_dict.specs.Stages.{Phase, Idle, Staged, Filled, IsStale}

-- the first word of a root's block
abbrev pub first_word : List ℕ → ℕ → ℕ
first_word words root = (tables_of words).root root / 8

-- the value that its block has
unfoldable pub value_in : List ℕ → ℕ → List ℕ
value_in words root = words_at words (first_word words root + head_words) (word_at words (first_word words root + 2))

-- a key with what the block of its root has
abbrev pub pair_in : List ℕ → Keyed → Pair
pair_in words r = record { key = r.key; value = value_in words r.root }

-- the same of each key of a row
unfoldable pub pairs_in : List ℕ → List Keyed → List Pair
pairs_in words rows = map (pair_in words) rows

-- the phase, with the value that stands at the stage
abbrev pub phase_in : List ℕ → ℕ → Progress → Phase
phase_in words key stages.Idle = Idle
phase_in words key (stages.Staged count) = Staged key count
phase_in words key stages.Filled = Filled key (value_in words stage)

-- the block of a root counts for a key
pub record CountsFor (words : List ℕ) (r : Keyed) : Type 0 where
  pub value : List ℕ
  pub counts : Counts words r.root r.key value

-- a map has a root for a key
pub record HasKey (keys : KeyRoots) (key : ℕ) : Type 0 where
  pub row : Keyed
  pub is : IsKeyed keys row
  pub key_is : row.key ≡ key

-- the block of a root is a pair of this number
pub record IsNumbered (words : List ℕ) (root number : ℕ) : Type 0 where
  pub key : ℕ
  pub value : List ℕ
  pub pair : IsPair words root key number value

-- a root below an end, but the stage, names no block
pub record IsVacant (words : List ℕ) (end root : ℕ) : Type 0 where
  pub low : stage < root
  pub high : root < end
  pub none : HasNone words root

-- the free roots are those below an end that name no block
pub record AreFreeRoots (words : List ℕ) (end : ℕ) (free : Roots) : Type 0 where
  pub below : free.below ≡ (bounds_of words).roots
  pub are : (root : ℕ) → IsIn free root → IsVacant words end root
  pub each : (root : ℕ) → IsVacant words end root → IsIn free root

-- the numbers are those of the pairs of the roots below an end, and 0 for each other root
pub record AreNumbers (words : List ℕ) (end : ℕ) (numbers : List ℕ) : Type 0 where
  pub size : length numbers ≡ (bounds_of words).roots
  pub each : (root key number : ℕ) (value : List ℕ) → root < end → IsPair words root key number value → slice_index numbers root ≡ number
  pub are : (root : ℕ) → slice_index numbers root ≢ 0 → IsNumbered words root (slice_index numbers root)

-- the map has the key of each pair, with the root whose block counts for it
pub record AreKeys (words : List ℕ) (keys : KeyRoots) : Type 0 where
  pub sound : IsKeyMap keys
  pub roots : keys.roots ≡ (bounds_of words).roots
  pub are : (r : Keyed) → IsKeyed keys r → CountsFor words r
  pub each : (root key number : ℕ) (value : List ℕ) → IsPair words root key number value → HasKey keys key

-- the tables are those of the image's pairs, stale or not, and of its free roots
pub record AreTables (words : List ℕ) (keys : KeyRoots) (numbers : List ℕ) (free : Roots) : Type 0 where
  pub keys_are : AreKeys words keys
  pub numbers_are : AreNumbers words (bounds_of words).roots numbers
  pub free_are : AreFreeRoots words (bounds_of words).roots free

-- the stale roots
pub record AreStaleRoots (words : List ℕ) (phase : Phase) (stale : Roots) : Type 0 where
  pub below : stale.below ≡ (bounds_of words).roots
  pub are : (root : ℕ) → IsIn stale root → IsStale words phase root
  pub each : (root : ℕ) → IsStale words phase root → IsIn stale root

-- the indexes are those of an image in a phase, and there is room for the words of one block
pub record AreIndexes (words : List ℕ) (phase : Phase) (index : DictIndex) : Type 0 where
  pub tables : AreTables words index.keys index.numbers index.free
  pub stale_roots : AreStaleRoots words phase index.stale
  pub wide : length index.block.items ≡ 512

-- ways through a map

-- no pair has a key at or above this one
pub record HasNoneFrom (pairs : List Pair) (key : ℕ) : Type 0 where
  pub none : (other : ℕ) → key ≤ other → value_of pairs other ≡ None

-- the pair with the least key at or above it
pub record IsNextFrom (pairs : List Pair) (key found : ℕ) (value : List ℕ) : Type 0 where
  pub low : key ≤ found
  pub here : value_of pairs found ≡ Some value
  pub least : (other : ℕ) → key ≤ other → other < found → value_of pairs other ≡ None
