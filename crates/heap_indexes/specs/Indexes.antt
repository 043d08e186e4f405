-- The indexes of a heap: what is kept so that a malloc finds its block and a free gives it back. They know no memory: they are
-- those of a state of the machine, and a call changes them as a step changes the state.
use Rattle.std.specs.Prelude.{◌≡◌, ◌↔◌, ◌&&◌, not, ◌==◌, ℕ, zero, suc, ◌+◌, ◌<◌, ◌≤◌, ◌^◌, Bool, true, false, List, length, slice_index, Option, Some, None, if◌then◌else◌}
use Rattle.size_classes.specs.Classes.{class_size, class_capacity}
use Rattle.heap_model.specs.Machine.{Bounds, Range, Machine, IsLarge, slab_block, IsBlockOf, IsUnused, IsFreeGranule, IsOverlapFree}
use Rattle.heap_model.specs.Slabs.{is_within, live_below, IsInTransition}
use Rattle.extent_index.specs.FreeSet.{FreeSet, IsFree}
use Rattle.slab_index.specs.SlabSet.{class_in}
use Rattle.slab_index.specs.Unfit.{is_unfit}
use Rattle.slab_index.specs.Lives.{Lives, normal_at}
use Rattle.block_supply.specs.Supply.{Supply, MayBeGiven}
use Rattle.unit_map.specs.Units.{Units}
use Rattle.unit_map.specs.Blocks.{AreUnitsOf}

-- the free granules; the slabs with their blocks that may be given out; how many blocks live in each slab, and which slabs are
-- normal; how many of its live blocks are strangers; and which bytes lie in small blocks
pub record Indexes : Type 0 where
  pub free : FreeSet
  pub supply : Supply
  pub lives : Lives
  pub strangers : List ℕ
  pub units : Units

-- strangers

-- the range begins in the slab at s, and has another size than that of its class
abbrev pub is_stranger : ℕ → ℕ → Option Range → Bool
is_stranger s class None = false
is_stranger s class (Some range) = is_within s range.at && not (range.size == class_size class)

-- how many of the first n roots name such a block
abbrev pub strangers_below : (ℕ → Option Range) → ℕ → ℕ → ℕ → ℕ
strangers_below block s class zero = 0
strangers_below block s class (suc n) = (if is_stranger s class (block n) then 1 else 0) + strangers_below block s class n

-- the indexes of a state

-- the arena has 16 to 4096 granules, of which at least four lie before its heap, and so many does each index know
pub record AreSizedFor (b : Bounds) (x : Indexes) : Type 0 where
  pub least : 16 ≤ b.granules
  pub most : b.granules ≤ 4096
  pub first : 4 ≤ b.first
  pub roots : b.roots + 1 < 2 ^ 32
  pub free : x.free.granules ≡ b.granules
  pub slabs : x.supply.slabs.granules ≡ b.granules
  pub counts : length x.lives.counts ≡ b.granules
  pub strangers : length x.strangers ≡ b.granules
  pub units : x.units.granules ≡ b.granules

-- the range is a block of some class in a slab, whichever class the slab has
pub record IsInSomeSlab (m : Machine) (range : Range) : Type 0 where
  pub start : ℕ
  pub class : ℕ
  pub slab : m.slab start ≡ Some class
  pub own : ℕ
  pub block : IsBlockOf start own range

-- each live small block is one
pub record AreInSlabs (m : Machine) : Type 0 where
  pub each : (root : ℕ) (range : Range) → m.block root ≡ Some range → ¬ (IsLarge range) → IsInSomeSlab m range

-- the free granules are those of the state
pub record IsFreeSetOf (b : Bounds) (m : Machine) (set : FreeSet) : Type 0 where
  pub each : (k : ℕ) → IsFree set k ↔ IsFreeGranule b m k

-- so are the slabs, each of a class below 36, and of their blocks those may be given that overlap no live one
pub record IsSupplyOf (m : Machine) (supply : Supply) : Type 0 where
  pub known : (s class : ℕ) → m.slab s ≡ Some class → class < 36
  pub classes : (s : ℕ) → class_in supply.slabs s ≡ m.slab s
  pub blocks : (s class i : ℕ) → m.slab s ≡ Some class → i < class_capacity class → MayBeGiven supply s i ↔ IsUnused m (slab_block s class i)

-- so many blocks live in each slab, none where no slab begins, and the normal slabs are those not in transition
pub record AreLivesOf (b : Bounds) (m : Machine) (lives : Lives) : Type 0 where
  pub counts : (s class : ℕ) → m.slab s ≡ Some class → slice_index lives.counts s ≡ live_below m.block s b.roots
  pub none : (s : ℕ) → m.slab s ≡ None → slice_index lives.counts s ≡ 0
  pub normal : (s class : ℕ) → normal_at lives s ≡ Some class ↔ ((m.slab s ≡ Some class) × ¬ (IsInTransition m s))
  -- of a slab that was found unfit for a class each block of the class shares a byte with a live one
  pub unfit : (s own class number : ℕ) → m.slab s ≡ Some own → class < 36 → is_unfit lives.unfit class s ≡ true → number < class_capacity class → ¬ (IsUnused m (slab_block s class number))

-- so many live blocks of each slab have another size than that of its class
pub record AreStrangersOf (b : Bounds) (m : Machine) (strangers : List ℕ) : Type 0 where
  pub each : (s class : ℕ) → m.slab s ≡ Some class → slice_index strangers s ≡ strangers_below m.block s class b.roots

-- they are the indexes of this state
pub record AreIndexesOf (b : Bounds) (m : Machine) (x : Indexes) : Type 0 where
  pub sized : AreSizedFor b x
  pub placed : AreInSlabs m
  pub free : IsFreeSetOf b m x.free
  pub supply : IsSupplyOf m x.supply
  pub lives : AreLivesOf b m x.lives
  pub strangers : AreStrangersOf b m x.strangers
  pub units : AreUnitsOf m x.units

-- they are those of some state that is free of overlaps
pub record HaveState (x : Indexes) : Type 0 where
  pub bounds : Bounds
  pub machine : Machine
  pub apart : IsOverlapFree bounds machine
  pub are : AreIndexesOf bounds machine x
