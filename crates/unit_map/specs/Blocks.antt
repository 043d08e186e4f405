-- The units of blocks. A block that begins and ends with a unit, as each small one does, has those that lie in its bytes.
use Rattle.std.specs.Prelude.{◌≡◌, ◌↔◌, ℕ, ◌+◌, ◌*◌, ◌/◌, ◌%◌, ◌<◌, ◌≤◌, true, false, Some, None}
use Rattle.size_classes.specs.Classes.{class_capacity}
use Rattle.heap_model.specs.Machine.{Bounds, Range, Machine, IsLarge, slab_block, with_key, IsUnused, IsOverlapFree}
use Rattle.unit_map.specs.Units.{Units, is_used, IsMarked, IsClear}

-- the first unit of a range of bytes, and how many it has
abbrev pub first_unit : Range → ℕ
first_unit range = range.at / 16

abbrev pub unit_count : Range → ℕ
unit_count range = range.size / 16

-- the range begins and ends with a unit
pub record IsOnUnits (range : Range) : Type 0 where
  pub begins : range.at % 16 ≡ 0
  pub ends : range.size % 16 ≡ 0

-- none of the units of a range is used
abbrev pub IsClearRange : Units → Range → Type 0
IsClearRange units range = IsClear units (first_unit range) (unit_count range)

-- the units of a range were marked, or cleared
abbrev pub IsRangeMarked : Units → Range → Units → Type 0
IsRangeMarked old range new = IsMarked old (first_unit range) (unit_count range) true new

abbrev pub IsRangeCleared : Units → Range → Units → Type 0
IsRangeCleared old range new = IsMarked old (first_unit range) (unit_count range) false new

-- searches in a slab

-- in the slab at s every block of class c at or above a number has a used unit
pub record HasNoClearBlock (units : Units) (s c from : ℕ) : Type 0 where
  pub none : (i : ℕ) → from ≤ i → i < class_capacity c → ¬ (IsClearRange units (slab_block s c i))

-- of those this block is the lowest whose units are clear
pub record IsFirstClearBlock (units : Units) (s c from number : ℕ) : Type 0 where
  pub low : from ≤ number
  pub within : number < class_capacity c
  pub clear : IsClearRange units (slab_block s c number)
  pub first : (i : ℕ) → from ≤ i → i < number → ¬ (IsClearRange units (slab_block s c i))

-- the units of a state

-- a small block is live
pub record IsSmallLive (m : Machine) (range : Range) : Type 0 where
  pub root : ℕ
  pub named : m.block root ≡ Some range
  pub small : ¬ (IsLarge range)

-- a live small block has unit k
pub record HasUnit (m : Machine) (k : ℕ) : Type 0 where
  pub range : Range
  pub live : IsSmallLive m range
  pub low : range.at ≤ 16 * k
  pub high : 16 * k < range.at + range.size

-- the map is that of a state: live small blocks begin and end with a unit, and the used units are theirs
pub record AreUnitsOf (m : Machine) (units : Units) : Type 0 where
  pub grid : (range : Range) → IsSmallLive m range → IsOnUnits range
  pub used : (k : ℕ) → (is_used units k ≡ true) ↔ HasUnit m k

-- laws

-- a root that named none has a small block, and the units of it were marked
abbrev pub LawOfPlacedUnits : Type 0
LawOfPlacedUnits =
    (m after : Machine) (root : ℕ) (range : Range) (units marked : Units) → AreUnitsOf m units →
    m.block root ≡ None → ((r : ℕ) → after.block r ≡ with_key m.block root (Some range) r) → ¬ (IsLarge range) → IsOnUnits range →
    IsRangeMarked units range marked → AreUnitsOf after marked

-- a root has lost its small block, and the units of it were cleared
abbrev pub LawOfFreedUnits : Type 0
LawOfFreedUnits =
    (b : Bounds) (m after : Machine) (root : ℕ) (range : Range) (units cleared : Units) → AreUnitsOf m units → IsOverlapFree b m →
    m.block root ≡ Some range → ((r : ℕ) → after.block r ≡ with_key m.block root None r) → ¬ (IsLarge range) →
    IsRangeCleared units range cleared → AreUnitsOf after cleared

-- the same small blocks are live
abbrev pub LawOfKeptUnits : Type 0
LawOfKeptUnits =
    (m after : Machine) (units : Units) → AreUnitsOf m units → ((range : Range) → IsSmallLive m range ↔ IsSmallLive after range) → AreUnitsOf after units

-- a block of any class in a slab of any class is unused exactly where its units are clear
abbrev pub LawOfUnusedBlocks : Type 0
LawOfUnusedBlocks =
    (b : Bounds) (m : Machine) (units : Units) (s class c i : ℕ) → AreUnitsOf m units → IsOverlapFree b m →
    m.slab s ≡ Some class → c < 36 → i < class_capacity c → IsClearRange units (slab_block s c i) ↔ IsUnused m (slab_block s c i)
