-- For the functions on rows of heads, which are what blocks of pairs begin with: in order, and taken into a map.
use Rattle.std.specs.Prelude.{◌≡◌, ◌≢◌, ◌⊎◌, ℕ, ◌<◌, min, List, length, map, slice_index_or, Bool, true, false, Option, Some, None}
use Rattle.std.specs.List.{AllPairs, Contains}
use Rattle.dict_index.specs.declared.key_map.Keyed.{Keyed}
use Rattle.dict_index.specs.KeyRoots.{IsKeyed, IsKeyMap}
use Rattle.attach_dict.specs.declared.heads.Head.{Head}
use Rattle.attach_dict.specs.declared.index.DictIndex.{DictIndex}
use Rattle.attach_dict.specs.Roots.{IsIn}

-- one comes before another: by its key, among equals by its number, and then by its root
abbrev pub IsBefore : Head → Head → Type 0
IsBefore a b = (a.key < b.key) ⊎ ((a.key ≡ b.key) × ((a.number < b.number) ⊎ ((a.number ≡ b.number) × (a.root < b.root))))

-- no root has two of them
abbrev pub AreApart : List Head → Type 0
AreApart heads = AllPairs (λ a b. a ≢ b) (map (λ h. h.root) heads)

-- a row of heads, each before those behind it
pub record AreInOrder (heads : List Head) : Type 0 where
  pub apart : AreApart heads
  pub rising : AllPairs IsBefore heads

-- this one stands at a place
pub record IsAt (heads : List Head) (place : ℕ) (h : Head) : Type 0 where
  pub inside : place < length heads
  pub is : slice_index_or heads place h ≡ h

-- twice

-- a root has the key and the number of a lower one
pub record IsTwice (heads : List Head) (root : ℕ) : Type 0 where
  pub lower : Head
  pub higher : Head
  pub has : Contains heads lower
  pub also : Contains heads higher
  pub root_is : higher.root ≡ root
  pub less : lower.root < higher.root
  pub key : lower.key ≡ higher.key
  pub number : lower.number ≡ higher.number

-- the lower one of a root, if there is one, and another
abbrev pub lower_of : Option ℕ → ℕ → ℕ
lower_of None other = other
lower_of (Some root) other = min root other

-- keys

-- no other one of its key comes behind it
abbrev pub IsLast : List Head → Head → Type 0
IsLast heads h = (other : Head) → Contains heads other → other.key ≡ h.key → ¬ (IsBefore h other)

-- another one of its key does
pub record IsPassed (heads : List Head) (h : Head) : Type 0 where
  pub other : Head
  pub has : Contains heads other
  pub key : other.key ≡ h.key
  pub before : IsBefore h other

abbrev pub EndsKey : List Head → Head → Bool → Type 0
EndsKey heads h true = IsLast heads h
EndsKey heads h false = IsPassed heads h

-- its key with its root
abbrev pub keyed_of : Head → Keyed
keyed_of h = record { key = h.key; root = h.root }

-- one of the heads below a place is the last of its key
pub record IsLastBelow (heads : List Head) (place : ℕ) (r : Keyed) : Type 0 where
  pub at : ℕ
  pub h : Head
  pub low : at < place
  pub there : IsAt heads at h
  pub last : IsLast heads h
  pub is : r ≡ keyed_of h

-- one of them is not
pub record IsPassedBelow (heads : List Head) (place root : ℕ) : Type 0 where
  pub at : ℕ
  pub h : Head
  pub low : at < place
  pub there : IsAt heads at h
  pub passed : IsPassed heads h
  pub is : root ≡ h.root

-- the tables have a place for each root of a row
pub record HasPlaces (heads : List Head) (index : DictIndex) : Type 0 where
  pub keys : (h : Head) → Contains heads h → h.root < index.keys.roots
  pub stale : (h : Head) → Contains heads h → h.root < index.stale.below

-- of the heads below a place the map has the last of each key, and the roots of the others are stale
pub record AreTakenTo (heads : List Head) (place : ℕ) (index : DictIndex) : Type 0 where
  pub sound : IsKeyMap index.keys
  pub keys_are : (r : Keyed) → IsKeyed index.keys r → IsLastBelow heads place r
  pub keys_each : (r : Keyed) → IsLastBelow heads place r → IsKeyed index.keys r
  pub stale_are : (root : ℕ) → IsIn index.stale root → IsPassedBelow heads place root
  pub stale_each : (root : ℕ) → IsPassedBelow heads place root → IsIn index.stale root

-- all but the keys and what is stale is as it was
pub record KeepsRest (old new : DictIndex) : Type 0 where
  pub roots : new.keys.roots ≡ old.keys.roots
  pub below : new.stale.below ≡ old.stale.below
  pub numbers : new.numbers ≡ old.numbers
  pub free : new.free ≡ old.free
  pub block : new.block ≡ old.block
