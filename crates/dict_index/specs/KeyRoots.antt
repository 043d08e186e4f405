-- A finite map from keys to roots. A key has one root at most, and a root one key at most.
use Rattle.std.specs.Prelude.{◌≡◌, ◌≢◌, ◌⊎◌, ℕ, ◌+◌, ◌^◌, ◌<◌, ◌≤◌, List, [], length, Option, Some, None}
use Rattle.std.specs.List.{AllPairs, Contains}
use Rattle.dict_index.specs.declared.key_map.Keyed.{Keyed}

-- a map: how many roots there are, and the keys that have one with it, by rising key
pub record KeyRoots : Type 0 where
  pub roots : ℕ
  pub rows : List Keyed

-- a key is below another one's
abbrev pub IsBelow : Keyed → Keyed → Type 0
IsBelow a b = a.key < b.key

-- the map has this key with this root
unfoldable pub IsKeyed : KeyRoots → Keyed → Type 0
IsKeyed roots row = Contains roots.rows row

-- no key of the map is this one
pub record LacksKey (map : KeyRoots) (key : ℕ) : Type 0 where
  pub none : (r : Keyed) → IsKeyed map r → r.key ≢ key

-- no key of the map has this root
pub record LacksRoot (map : KeyRoots) (root : ℕ) : Type 0 where
  pub none : (r : Keyed) → IsKeyed map r → r.root ≢ root

-- the keys rise and have 64 bits, and each root is one of the map's; none has two keys, and so there are no more than roots
pub record IsKeyMap (map : KeyRoots) : Type 0 where
  pub rising : AllPairs IsBelow map.rows
  pub narrow : (r : Keyed) → IsKeyed map r → r.key < 2 ^ 64
  pub below : (r : Keyed) → IsKeyed map r → r.root < map.roots
  pub key_once : (r s : Keyed) → IsKeyed map r → IsKeyed map s → r.key ≡ s.key → r ≡ s
  pub root_once : (r s : Keyed) → IsKeyed map r → IsKeyed map s → r.root ≡ s.root → r ≡ s
  pub few : length map.rows ≤ map.roots

-- changes

-- no key has a root yet
pub record IsNew (map : KeyRoots) (roots : ℕ) : Type 0 where
  pub roots_are : map.roots ≡ roots
  pub empty : map.rows ≡ []
  pub none : (r : Keyed) → ¬ (IsKeyed map r)
  pub sound : IsKeyMap map

-- a key that the map lacked came with its root, and the others are as they were
pub record HasMore (old : KeyRoots) (more : Keyed) (new : KeyRoots) : Type 0 where
  pub roots : new.roots ≡ old.roots
  pub lacked : LacksKey old more.key
  pub here : IsKeyed new more
  pub kept : (r : Keyed) → IsKeyed old r → IsKeyed new r
  pub each : (r : Keyed) → IsKeyed new r → IsKeyed old r ⊎ (r ≡ more)
  pub count : length new.rows ≡ length old.rows + 1
  pub sound : IsKeyMap new

-- a key has another root than the one it had, which no key has now, and the others are as they were
pub record HasReplaced (old : KeyRoots) (was more : Keyed) (new : KeyRoots) : Type 0 where
  pub roots : new.roots ≡ old.roots
  pub had : IsKeyed old was
  pub same_key : was.key ≡ more.key
  pub inside : was.root < new.roots
  pub gone : LacksRoot new was.root
  pub here : IsKeyed new more
  pub kept : (r : Keyed) → IsKeyed old r → r.key ≢ more.key → IsKeyed new r
  pub each : (r : Keyed) → IsKeyed new r → (IsKeyed old r × (r.key ≢ more.key)) ⊎ (r ≡ more)
  pub count : length new.rows ≡ length old.rows
  pub sound : IsKeyMap new

-- a key went with its root, and the others are as they were
pub record HasLess (old : KeyRoots) (gone : Keyed) (new : KeyRoots) : Type 0 where
  pub roots : new.roots ≡ old.roots
  pub had : IsKeyed old gone
  pub inside : gone.root < new.roots
  pub key : LacksKey new gone.key
  pub root : LacksRoot new gone.root
  pub kept : (r : Keyed) → IsKeyed old r → r.key ≢ gone.key → IsKeyed new r
  pub each : (r : Keyed) → IsKeyed new r → IsKeyed old r
  pub count : length new.rows + 1 ≡ length old.rows
  pub sound : IsKeyMap new

-- a key got a root, by the root that it had before
abbrev pub IsPut : KeyRoots → Keyed → KeyRoots → Option ℕ → Type 0
IsPut old more new None = HasMore old more new
IsPut old more new (Some root) = HasReplaced old (record { key = more.key; root = root }) more new

-- a key went, by the root that it had; a map that lacks it is as it was
abbrev pub IsRemoved : KeyRoots → ℕ → KeyRoots → Option ℕ → Type 0
IsRemoved old key new None = LacksKey old key × (new ≡ old)
IsRemoved old key new (Some root) = HasLess old (record { key = key; root = root }) new

-- searches

-- it is the root of a key
pub record IsRootOf (map : KeyRoots) (key root : ℕ) : Type 0 where
  pub is : IsKeyed map (record { key = key; root = root })

-- all keys are below this one
pub record HasNoneFrom (map : KeyRoots) (key : ℕ) : Type 0 where
  pub none : (s : Keyed) → IsKeyed map s → s.key < key

-- the least key that is this one or above it
pub record IsNextFrom (map : KeyRoots) (key : ℕ) (r : Keyed) : Type 0 where
  pub is : IsKeyed map r
  pub from : key ≤ r.key
  pub least : (s : Keyed) → IsKeyed map s → key ≤ s.key → r.key ≤ s.key
