-- What the parts of a call do to the indexes, by every state that they are those of.
use Rattle.std.specs.Prelude.{◌≡◌, ◌≢◌, ◌↔◌, ◌⊎◌, ℕ, ◌+◌, ◌*◌, ◌<◌, ◌≤◌, Bool, true, false, Some, None}
use Rattle.size_classes.specs.Classes.{class_size, class_capacity, IsClassOf}
use Rattle.heap_model.specs.Machine.{Bounds, Range, Machine, with_key, AreApart, slab_block, IsOverlapFree}
use Rattle.heap_model.specs.Choice.{Site}
use Rattle.heap_model.specs.Slabs.{live_below}
use Rattle.heap_model.specs.Step.{First, with_block, forgotten}
use Rattle.heap_model.specs.Placement.{Stacks, without_slab}
use Rattle.thread_cache.specs.Stacks.{stacks_of}
use Rattle.slab_index.specs.SlabSet.{class_in}
use Rattle.slab_index.specs.declared.block.SlabBlock.{SlabBlock}
use Rattle.block_supply.specs.Supply.{Supply, MayBeGiven, TookBlock, HasNoOpen, IsPutOn, HasSlabMore, HasSlabLess}
use Rattle.unit_map.specs.Units.{Units}
use Rattle.unit_map.specs.Blocks.{IsClearRange}
use Rattle.heap_indexes.specs.Indexes.{Indexes, AreIndexesOf}
use Rattle.heap_indexes.specs.Steps.{HasPlaced, site_of}
use Rattle.heap_indexes.specs.declared.answer.Place.{Place}

-- states

-- a root has lost its block, and the slabs stay
abbrev pub loosened : Machine → ℕ → Machine
loosened m root = record { block = with_key m.block root None; slab = m.slab; value = forgotten m.value root }

-- the slab at s has left
abbrev pub closed : Machine → ℕ → Machine
closed m s = record { block = m.block; slab = with_key m.slab s None; value = m.value }

-- a change of the indexes is one of each state that they are those of
abbrev pub Follow : Indexes → (Bounds → Machine → Machine) → Indexes → Type 0
Follow old change new = (b : Bounds) (m : Machine) → IsOverlapFree b m → AreIndexesOf b m old → AreIndexesOf b (change b m) new

-- a block of a class in the slab at a start begins at this byte
pub record IsBlockAt (start class at : ℕ) : Type 0 where
  pub number : ℕ
  pub within : number < class_capacity class
  pub is : at ≡ (slab_block start class number).at

-- malloc

-- no block of the class is open, and nothing changed
pub record WasFull (old : Indexes) (class : ℕ) (new : Indexes) : Type 0 where
  pub none : HasNoOpen old.supply class
  pub same : new ≡ old

-- a block of the class was taken out of the supply for a seat, for whichever root
pub record HasTaken (old : Indexes) (seat class : ℕ) (block : SlabBlock) (new : Indexes) : Type 0 where
  pub took : TookBlock old.supply seat class block new.supply
  pub indexes : (b : Bounds) (m : Machine) → IsOverlapFree b m → AreIndexesOf b m old → (root : ℕ) → root < b.roots → m.block root ≡ None → AreIndexesOf b (with_block m root (Site.InSlab block.start class block.number)) new

-- of the class blocks of the slab at a start alone are open, and one is
pub record IsOnlySlab (supply : Supply) (class start : ℕ) : Type 0 where
  pub slab : class_in supply.slabs start ≡ Some class
  pub number : ℕ
  pub is_open : MayBeGiven supply start number
  pub alone : (s i : ℕ) → class_in supply.slabs s ≡ Some class → MayBeGiven supply s i → s ≡ start

-- a slab went out of the supply, and came back with a class and the blocks of it that are clear
pub record HasChanged (units : Units) (old : Supply) (start class : ℕ) (new : Supply) : Type 0 where
  pub less : Supply
  pub gone : HasSlabLess old less start
  pub came : HasSlabMore less new start class (λ i. (i < class_capacity class) × IsClearRange units (slab_block start class i))

-- a block of the class was found for a seat, at a place that a request of the class has
abbrev pub HasPlacedSmall : (seat class : ℕ) → Indexes → Place → Indexes → Type 0
HasPlacedSmall seat class old place new = (size : ℕ) → IsClassOf size class → (b : Bounds) (m : Machine) → IsOverlapFree b m → AreIndexesOf b m old → HasPlaced b m seat size old (site_of place) new

-- free

-- each root that named the range has lost it
abbrev pub HasLoosened : Indexes → Range → Indexes → Type 0
HasLoosened old range new = (b : Bounds) (m : Machine) (root : ℕ) → IsOverlapFree b m → AreIndexesOf b m old → m.block root ≡ Some range → AreIndexesOf b (loosened m root) new

-- of the blocks of a slab those that overlap a range are open where they are clear, and all others are as before
pub record HasOpened (units : Units) (old : Supply) (start class : ℕ) (range : Range) (new : Supply) : Type 0 where
  pub granules : new.slabs.granules ≡ old.slabs.granules
  pub classes : (s : ℕ) → class_in new.slabs s ≡ class_in old.slabs s
  pub covered : (i : ℕ) → i < class_capacity class → ¬ (AreApart range (slab_block start class i)) → MayBeGiven new start i ↔ IsClearRange units (slab_block start class i)
  pub apart : (i : ℕ) → i < class_capacity class → AreApart range (slab_block start class i) → MayBeGiven new start i ↔ MayBeGiven old start i
  pub others : (s i : ℕ) → s ≢ start → MayBeGiven new s i ↔ MayBeGiven old s i
  pub stacks : new.stacks ≡ old.stacks

-- a block that was not open is where it is clear, and all others are as before
pub record HasOpenedOne (units : Units) (old : Supply) (start class number : ℕ) (new : Supply) : Type 0 where
  pub granules : new.slabs.granules ≡ old.slabs.granules
  pub classes : (s : ℕ) → class_in new.slabs s ≡ class_in old.slabs s
  pub here : MayBeGiven new start number ↔ IsClearRange units (slab_block start class number)
  pub others : (s i : ℕ) → (s ≢ start) ⊎ (i ≢ number) → MayBeGiven new s i ↔ MayBeGiven old s i
  pub stacks : new.stacks ≡ old.stacks

-- the blocks of a class that overlap a range in a slab are those from a number on and below another
pub record IsCovered (start class : ℕ) (range : Range) (from end : ℕ) : Type 0 where
  pub high : end ≤ class_capacity class
  pub inside : (i : ℕ) → from ≤ i → i < end → ¬ (AreApart range (slab_block start class i))
  pub outside : (i : ℕ) → i < class_capacity class → (i < from) ⊎ (end ≤ i) → AreApart range (slab_block start class i)

-- none of them is open
pub record HasNoneOpen (supply : Supply) (start class : ℕ) (range : Range) : Type 0 where
  pub none : (i : ℕ) → i < class_capacity class → ¬ (AreApart range (slab_block start class i)) → ¬ (MayBeGiven supply start i)

-- the range lies behind the header of the slab at s
pub record IsBehindHeader (s : ℕ) (range : Range) : Type 0 where
  pub some : 0 < range.size
  pub low : 16384 * s + 2048 ≤ range.at
  pub high : range.at + range.size ≤ 16384 * s + 65536

-- the block goes on top of the seat's stack where it has the size of the slab's class and the stack has room, and else on none
abbrev pub IsPutBack : Stacks → (seat class : ℕ) → Range → Stacks → Type 0
IsPutBack old seat class range new = First (range.size ≡ class_size class) (λ _. IsPutOn old seat class range.at new) (new ≡ old)

-- the slab at a start left where no block lives in it; else nothing changed
abbrev pub IsTidied : Indexes → (start : ℕ) → Bool → Indexes → Type 0
IsTidied old start true new =
    ((b : Bounds) (m : Machine) → IsOverlapFree b m → AreIndexesOf b m old → (live_below m.block start b.roots ≡ 0) × AreIndexesOf b (closed m start) new) × (stacks_of new.supply.stacks ≡ without_slab (stacks_of old.supply.stacks) start)
IsTidied old start false new = ((b : Bounds) (m : Machine) → IsOverlapFree b m → AreIndexesOf b m old → live_below m.block start b.roots ≢ 0) × (new ≡ old)
