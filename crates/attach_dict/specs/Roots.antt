-- A set of roots below a number, and how many they are.
use Rattle.std.specs.Prelude.{◌≡◌, ◌≢◌, ◌⊎◌, ◌^◌, ℕ, ◌+◌, ◌*◌, ◌<◌, ◌≤◌, true, List, length}
use Rattle.bit_words.specs.Numbers.{has}
use Rattle.image_defects.specs.Count.{IsCount}

-- the number that all roots are below, those of the set as bits, and how many they are
pub record Roots : Type 0 where
  pub below : ℕ
  pub bits : List ℕ
  pub count : ℕ

-- a root is in the set
unfoldable pub IsIn : Roots → ℕ → Type 0
IsIn set root = has set.bits root ≡ true

-- each root of the set is below the number, there is a bit for it, and the count is theirs
pub record AreRoots (set : Roots) : Type 0 where
  pub few : set.below ≤ 2 ^ 16
  pub wide : set.below ≤ 64 * length set.bits
  pub short : length set.bits ≤ 2048
  pub inside : (root : ℕ) → IsIn set root → root < set.below
  pub count_is : IsCount (IsIn set) set.below set.count

-- no root is in the set
pub record AreNoRoots (set : Roots) (below : ℕ) : Type 0 where
  pub below_is : set.below ≡ below
  pub none : (root : ℕ) → ¬ (IsIn set root)
  pub count_is : set.count ≡ 0

-- it is not in the set
pub record IsOut (set : Roots) (root : ℕ) : Type 0 where
  pub none : ¬ (IsIn set root)

-- a root came
pub record HasMoreRoots (old : Roots) (more : ℕ) (new : Roots) : Type 0 where
  pub below : new.below ≡ old.below
  pub here : IsIn new more
  pub kept : (root : ℕ) → IsIn old root → IsIn new root
  pub each : (root : ℕ) → IsIn new root → IsIn old root ⊎ (root ≡ more)
  pub count : new.count ≡ old.count + 1

-- a root went
pub record HasFewerRoots (old : Roots) (gone : ℕ) (new : Roots) : Type 0 where
  pub below : new.below ≡ old.below
  pub out : IsOut new gone
  pub kept : (root : ℕ) → IsIn old root → root ≢ gone → IsIn new root
  pub each : (root : ℕ) → IsIn new root → IsIn old root
  pub count : new.count + 1 ≡ old.count
