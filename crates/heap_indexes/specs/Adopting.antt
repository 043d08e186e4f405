-- How the indexes of a state come about that is there already. First the roots are counted, one by one; then the extents are taken
-- over, by rising start. What is kept says how far both have come.
use Rattle.std.specs.Prelude.{◌≡◌, ◌↔◌, ◌⊎◌, ◌==◌, not, ℕ, suc, ◌+◌, ◌*◌, ◌<◌, ◌≤◌, Bool, false, slice_index, Some, None, nat_lt, if◌then◌else◌}
use Rattle.size_classes.specs.Classes.{class_size, class_capacity}
use Rattle.heap_model.specs.Machine.{Bounds, Range, Machine, Meets, IsLarge, LiesIn, slab_block, IsUnused, IsOverlapFree}
use Rattle.heap_model.specs.Slabs.{live_below, IsInTransition}
use Rattle.extent_index.specs.FreeSet.{IsFree}
use Rattle.slab_index.specs.SlabSet.{class_in}
use Rattle.slab_index.specs.Unfit.{is_unfit}
use Rattle.slab_index.specs.Lives.{normal_at}
use Rattle.block_supply.specs.Supply.{MayBeGiven}
use Rattle.unit_map.specs.Blocks.{IsOnUnits, AreUnitsOf}
use Rattle.heap_indexes.specs.Indexes.{Indexes, strangers_below, AreSizedFor, AreInSlabs, AreIndexesOf}

-- the state may be that of an arena: no blocks overlap, small ones are blocks of some class in slabs, and slabs have classes below 36
pub record IsAdoptable (b : Bounds) (m : Machine) : Type 0 where
  pub apart : IsOverlapFree b m
  pub placed : AreInSlabs m
  pub known : (s class : ℕ) → m.slab s ≡ Some class → class < 36

-- the state, of which the roots below n alone name blocks
abbrev pub rooted_below : Machine → ℕ → Machine
rooted_below m n = record { block = λ root. if nat_lt root n then m.block root else None; slab = m.slab; value = m.value }

-- The first n roots are counted: the used units are those of the small blocks that they name, and so many of these begin in each
-- slab, and so many are strangers there.
pub record AreCounted (b : Bounds) (m : Machine) (n : ℕ) (x : Indexes) : Type 0 where
  pub units : AreUnitsOf (rooted_below m n) x.units
  pub counts : (s class : ℕ) → m.slab s ≡ Some class → slice_index x.lives.counts s ≡ live_below m.block s n
  pub none : (s : ℕ) → m.slab s ≡ None → slice_index x.lives.counts s ≡ 0
  pub strangers : (s class : ℕ) → m.slab s ≡ Some class → slice_index x.strangers s ≡ strangers_below m.block s class n

-- the granule lies in the heap, and in no large block and no slab that begins below granule k
pub record IsFreeBelow (b : Bounds) (m : Machine) (k granule : ℕ) : Type 0 where
  pub low : b.first ≤ granule
  pub high : granule < b.granules
  pub no_block : (root : ℕ) (range : Range) → m.block root ≡ Some range → IsLarge range → range.at < 16384 * k → ¬ (Meets range granule)
  pub no_slab : (s class : ℕ) → m.slab s ≡ Some class → s < k → (granule < s) ⊎ (s + 4 ≤ granule)

-- The extents that begin below granule k are taken over: their granules are not free, and the slabs among them are there, with the
-- blocks that may be given out, each normal where it is not in transition, and none known to be unfit.
pub record AreTaken (b : Bounds) (m : Machine) (k : ℕ) (x : Indexes) : Type 0 where
  pub free : (granule : ℕ) → IsFree x.free granule ↔ IsFreeBelow b m k granule
  pub classes : (s : ℕ) → class_in x.supply.slabs s ≡ (if nat_lt s k then m.slab s else None)
  pub blocks : (s class i : ℕ) → s < k → m.slab s ≡ Some class → i < class_capacity class → MayBeGiven x.supply s i ↔ IsUnused m (slab_block s class i)
  pub normal : (s class : ℕ) → normal_at x.lives s ≡ Some class ↔ ((s < k) × (m.slab s ≡ Some class) × ¬ (IsInTransition m s))
  pub sought : (s own class : ℕ) → s < k → m.slab s ≡ Some own → is_unfit x.lives.unfit class s ≡ false

-- n roots are counted, and the extents below granule k taken over
pub record AreAdopted (b : Bounds) (m : Machine) (n k : ℕ) (x : Indexes) : Type 0 where
  pub of : IsAdoptable b m
  pub sized : AreSizedFor b x
  pub counted : AreCounted b m n x
  pub taken : AreTaken b m k x

-- the next root names a small block in the slab at a start, of that slab's class or a stranger
pub record IsNextBlock (b : Bounds) (m : Machine) (n k : ℕ) (x : Indexes) (start : ℕ) (range : Range) (stranger : Bool) : Type 0 where
  pub adopted : AreAdopted b m n k x
  pub named : m.block n ≡ Some range
  pub small : ¬ (IsLarge range)
  pub class : ℕ
  pub slab : m.slab start ≡ Some class
  pub lies : LiesIn start range
  pub units : IsOnUnits range
  pub differs : stranger ≡ not (range.size == class_size class)

-- of some state it is
pub record HasNextBlock (x : Indexes) (start : ℕ) (range : Range) (stranger : Bool) : Type 0 where
  pub bounds : Bounds
  pub machine : Machine
  pub roots : ℕ
  pub from : ℕ
  pub is : IsNextBlock bounds machine roots from x start range stranger

-- no extent begins at a granule from k on and below a start
pub record HasNoneBetween (m : Machine) (k start : ℕ) : Type 0 where
  pub no_block : (root : ℕ) (range : Range) → m.block root ≡ Some range → IsLarge range → 16384 * k ≤ range.at → range.at < 16384 * start → ⊥
  pub no_slab : (s class : ℕ) → m.slab s ≡ Some class → k ≤ s → s < start → ⊥

-- the next large block from granule k on begins at a start, and has so many granules
pub record IsNextLarge (b : Bounds) (m : Machine) (n k : ℕ) (x : Indexes) (start granules : ℕ) : Type 0 where
  pub adopted : AreAdopted b m n k x
  pub from : k ≤ start
  pub between : HasNoneBetween m k start
  pub root : ℕ
  pub named : m.block root ≡ Some (record { at = 16384 * start; size = 16384 * granules })
  pub many : 2 ≤ granules

pub record HasNextLarge (x : Indexes) (start granules : ℕ) : Type 0 where
  pub bounds : Bounds
  pub machine : Machine
  pub roots : ℕ
  pub from : ℕ
  pub is : IsNextLarge bounds machine roots from x start granules

-- all roots are counted, and the next slab from granule k on begins at a start, and has a class
pub record IsNextSlab (b : Bounds) (m : Machine) (k : ℕ) (x : Indexes) (start class : ℕ) : Type 0 where
  pub adopted : AreAdopted b m b.roots k x
  pub from : k ≤ start
  pub between : HasNoneBetween m k start
  pub slab : m.slab start ≡ Some class

pub record HasNextSlab (x : Indexes) (start class : ℕ) : Type 0 where
  pub bounds : Bounds
  pub machine : Machine
  pub from : ℕ
  pub is : IsNextSlab bounds machine from x start class

-- what a step of it does, whichever state it is of

-- one root more is counted
abbrev pub CountsBlock : Indexes → (start : ℕ) → Range → (stranger : Bool) → Indexes → Type 0
CountsBlock old start range stranger new = (b : Bounds) (m : Machine) (n k : ℕ) → IsNextBlock b m n k old start range stranger → AreAdopted b m (suc n) k new

-- one extent more is taken over

abbrev pub TakesLarge : Indexes → (start granules : ℕ) → Indexes → Type 0
TakesLarge old start granules new = (b : Bounds) (m : Machine) (n k : ℕ) → IsNextLarge b m n k old start granules → AreAdopted b m n (start + 1) new

abbrev pub TakesSlab : Indexes → (start class : ℕ) → Indexes → Type 0
TakesSlab old start class new = (b : Bounds) (m : Machine) (k : ℕ) → IsNextSlab b m k old start class → AreAdopted b m b.roots (start + 1) new

-- laws

-- a root that names no small block is counted as it is passed over
abbrev pub LawOfPassedRoots : Type 0
LawOfPassedRoots = (b : Bounds) (m : Machine) (n k : ℕ) (x : Indexes) → AreAdopted b m n k x → ((range : Range) → m.block n ≡ Some range → IsLarge range) → AreAdopted b m (suc n) k x

-- so are granules at which no extent begins
abbrev pub LawOfPassedGranules : Type 0
LawOfPassedGranules = (b : Bounds) (m : Machine) (n k end : ℕ) (x : Indexes) → AreAdopted b m n k x → k ≤ end → HasNoneBetween m k end → AreAdopted b m n end x

-- where all roots are counted and all extents taken over, they are the indexes of the state
abbrev pub LawOfAdoptedIndexes : Type 0
LawOfAdoptedIndexes = (b : Bounds) (m : Machine) (x : Indexes) → AreAdopted b m b.roots b.granules x → AreIndexesOf b m x
