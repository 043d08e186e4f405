-- What is kept of a map from keys to roots, and of numbers by root.
use Rattle.std.specs.Prelude.{◌≡◌, ◌≢◌, ℕ, ◌+◌, ◌*◌, ◌/◌, ◌^◌, ◌<◌, ◌≤◌, List, length, map, take, slice_index, slice_index_or, Option, Some, None}
use Rattle.dict_index.specs.declared.key_map.Keyed.{Keyed}
use Rattle.dict_index.specs.KeyRoots.{KeyRoots, IsKeyed, HasReplaced, HasLess}
use Rattle.dict_index.specs.Numbers.{IsGreatestIn}

-- a map

-- what a slot has
abbrev pub keyed_at : List ℕ → List ℕ → ℕ → Keyed
keyed_at keys roots slot = record { key = slice_index keys slot; root = slice_index roots slot }

-- what these slots have
unfoldable pub keyed_in : List ℕ → List ℕ → List ℕ → List Keyed
keyed_in keys roots slots = map (keyed_at keys roots) slots

-- the map that the first slots of a row say
abbrev pub map_of : ℕ → List ℕ → List ℕ → List ℕ → KeyRoots
map_of count row keys roots = record { roots = length keys; rows = keyed_in keys roots (take count row) }

-- no root
abbrev pub no_root : ℕ
no_root = 65535

-- the row has slots alone, each once
pub record AreSlots (row : List ℕ) (slots : ℕ) : Type 0 where
  pub size : length row ≡ slots
  pub below : (i : ℕ) → i < length row → slice_index row i < slots
  pub once : (i j : ℕ) → i < length row → j < length row → slice_index row i ≡ slice_index row j → i ≡ j

-- the keys of the first slots of a row, which rise
pub record AreKeyed (row : List ℕ) (count : ℕ) (keys : List ℕ) : Type 0 where
  pub within : count ≤ length row
  pub below : (i : ℕ) → i < count → slice_index row i < length keys
  pub rising : (i j : ℕ) → i < j → j < count → slice_index keys (slice_index row i) < slice_index keys (slice_index row j)

-- the first slots of a row have a root each, and no other slot has one; none stands in two
pub record AreRooted (row : List ℕ) (count : ℕ) (roots : List ℕ) : Type 0 where
  pub used : (i : ℕ) → i < count → slice_index roots (slice_index row i) < length roots
  pub unused : (i : ℕ) → count ≤ i → i < length row → slice_index roots (slice_index row i) ≡ no_root
  pub held : (slot : ℕ) → slot < length roots → slice_index roots slot ≢ no_root → (i : ℕ) × (i < count) × (slice_index row i ≡ slot)
  pub once : (a b : ℕ) → a < length roots → b < length roots → slice_index roots a ≡ slice_index roots b → slice_index roots a ≢ no_root → a ≡ b

-- The row has each slot once. The first ones have a key and its root each, by rising key.
pub record IsKept (count : ℕ) (row keys roots : List ℕ) : Type 0 where
  pub few : length keys ≤ no_root
  pub roots_size : length roots ≡ length keys
  pub narrow : (slot : ℕ) → slice_index keys slot < 2 ^ 64
  pub slots : AreSlots row (length keys)
  pub keyed : AreKeyed row count keys
  pub rooted : AreRooted row count roots

-- a key stands in a slot with a root
pub record IsSlotOf (keys roots : List ℕ) (slot key root : ℕ) : Type 0 where
  pub inside : slot < length keys
  pub key_is : slice_index keys slot ≡ key
  pub root_is : slice_index roots slot ≡ root
  pub some : root ≢ no_root

-- a row that counts up from 0
pub record IsCountedUp (row : List ℕ) (count : ℕ) : Type 0 where
  pub size : length row ≡ count
  pub each : (i : ℕ) → i < length row → slice_index row i ≡ i

-- the last one of a part of a row came before the others of it
pub record IsTurned (old : List ℕ) (place last : ℕ) (new : List ℕ) : Type 0 where
  pub size : length new ≡ length old
  pub first : slice_index new place ≡ slice_index old last
  pub moved : (i : ℕ) → place ≤ i → i < last → slice_index new (i + 1) ≡ slice_index old i
  pub below : (i : ℕ) → i < place → slice_index new i ≡ slice_index old i
  pub above : (i : ℕ) → last < i → slice_index new i ≡ slice_index old i

-- so many of the first slots of a row have a key below one, and the others have none
pub record IsCutAt (row : List ℕ) (count : ℕ) (keys : List ℕ) (key place : ℕ) : Type 0 where
  pub within : place ≤ count
  pub before : (i : ℕ) → i < place → slice_index keys (slice_index row i) < key
  pub behind : (i : ℕ) → place ≤ i → i < count → key ≤ slice_index keys (slice_index row i)

-- so many keys of a map are below one, and the others are not
pub record IsPlaceOf (map : KeyRoots) (key place : ℕ) : Type 0 where
  pub within : place ≤ length map.rows
  pub before : (i : ℕ) (d : Keyed) → i < place → (slice_index_or map.rows i d).key < key
  pub behind : (i : ℕ) (d : Keyed) → place ≤ i → i < length map.rows → key ≤ (slice_index_or map.rows i d).key

-- a key with its root stands at a place
pub record IsInRow (map : KeyRoots) (place : ℕ) (r : Keyed) : Type 0 where
  pub within : place < length map.rows
  pub at : (d : Keyed) → slice_index_or map.rows place d ≡ r
  pub is : IsKeyed map r

-- a key does, with some root
pub record HasKeyAt (map : KeyRoots) (place key : ℕ) : Type 0 where
  pub root : ℕ
  pub is : IsInRow map place (record { key = key; root = root })

-- a key has another root by the root that it had, or else nothing changed
abbrev pub IsReplacedIn : KeyRoots → Keyed → KeyRoots → Option ℕ → Type 0
IsReplacedIn old more new None = new ≡ old
IsReplacedIn old more new (Some root) = HasReplaced old (record { key = more.key; root = root }) more new

-- the key of a place went
abbrev pub HasLessAt : KeyRoots → ℕ → KeyRoots → Type 0
HasLessAt old place new = (gone : Keyed) → IsInRow old place gone → HasLess old gone new

-- numbers

-- of numbers by root, the greatest of each 64 and that of all
pub record AreNumbersKept (numbers groups : List ℕ) (greatest : ℕ) : Type 0 where
  pub few : length numbers ≤ 2 ^ 16
  pub size : length groups ≡ length numbers / 64 + 1
  pub each : (g : ℕ) → g < length groups → IsGreatestIn numbers (64 * g) (64 * g + 64) (slice_index groups g)
  pub all : IsGreatestIn groups 0 (length groups) greatest
