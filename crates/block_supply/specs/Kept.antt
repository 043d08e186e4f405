-- What a supply keeps: stacks and available blocks agree, and slabs are apart.
use Rattle.std.specs.Prelude.{◌≡◌, ◌≢◌, ◌⊎◌, ℕ, ◌+◌, ◌<◌, ◌≤◌, true, [], Some}
use Rattle.size_classes.specs.Classes.{class_capacity}
use Rattle.heap_model.specs.Machine.{slab_block}
use Rattle.heap_model.specs.Placement.{Has, IsInNoStack, IsRefill, AreDistinct}
use Rattle.slab_index.specs.declared.block.SlabBlock.{SlabBlock}
use Rattle.slab_index.specs.SlabSet.{SlabSet, class_in, is_available, HasNoBlock}
use Rattle.thread_cache.specs.Stacks.{StackTable, stacks_of, GaveTop, GaveFirst}
use Rattle.block_supply.specs.Supply.{Supply, MayBeGiven, IsWithout, supply_view}

-- the address is that of a block of the slab of the class at a start
pub record IsBlockAt (set : SlabSet) (class at start number : ℕ) : Type 0 where
  pub slab : class_in set start ≡ Some class
  pub within : number < class_capacity class
  pub is : at ≡ (slab_block start class number).at

-- it is that of some block
pub record IsSomeBlock (set : SlabSet) (class at : ℕ) : Type 0 where
  pub start : ℕ
  pub number : ℕ
  pub block : IsBlockAt set class at start number

-- no two slabs share a granule
pub record AreSlabsApart (set : SlabSet) : Type 0 where
  pub each : (start other class c : ℕ) → start ≢ other → class_in set start ≡ Some class → class_in set other ≡ Some c → (start + 4 ≤ other) ⊎ (other + 4 ≤ start)

-- Only blocks of slabs are available. Each address in a stack is that of a block of its class, and no available block is in a stack.
pub record IsKept (set : SlabSet) (table : StackTable) : Type 0 where
  pub few : set.granules ≤ 4096
  pub known : (start class : ℕ) → class_in set start ≡ Some class → (class < 36) × (start < set.granules)
  pub apart : AreSlabsApart set
  pub below : (start number class : ℕ) → class_in set start ≡ Some class → is_available set start number ≡ true → number < class_capacity class
  pub distinct : AreDistinct (stacks_of table)
  pub stacked : (seat class at : ℕ) → Has (stacks_of table seat class) at → IsSomeBlock set class at
  pub loose : (start number class : ℕ) → class_in set start ≡ Some class → is_available set start number ≡ true → IsInNoStack (stacks_of table) (slab_block start class number).at

-- an open block of the class was taken
pub record HasTaken (old : Supply) (class : ℕ) (block : SlabBlock) (new : Supply) : Type 0 where
  pub slab : class_in old.slabs block.start ≡ Some class
  pub within : block.number < class_capacity class
  pub was_open : MayBeGiven old block.start block.number
  pub without : IsWithout old new block.start block.number

-- it was the top of the seat's stack
pub record TookTop (old : Supply) (seat class : ℕ) (block : SlabBlock) (new : Supply) : Type 0 where
  pub taken : HasTaken old class block new
  pub gave : GaveTop (stacks_of old.stacks) seat class (slab_block block.start class block.number).at (stacks_of new.stacks)

-- that stack was empty
pub record HadNoTop (old : Supply) (seat class : ℕ) (new : Supply) : Type 0 where
  pub empty : stacks_of old.stacks seat class ≡ []
  pub same : new ≡ old

-- it was the lowest available one, and others went on the seat's stack
pub record TookLowest (old : Supply) (seat class : ℕ) (block : SlabBlock) (new : Supply) : Type 0 where
  pub taken : HasTaken old class block new
  pub refill : IsRefill (supply_view old) (stacks_of old.stacks) seat class (slab_block block.start class block.number).at (stacks_of new.stacks)

-- none was available
pub record HadNoAvailable (old : Supply) (class : ℕ) (new : Supply) : Type 0 where
  pub used : HasNoBlock old.slabs class
  pub same : new ≡ old

-- it was the top of the first stack of the class that has one
pub record TookFirst (old : Supply) (class : ℕ) (block : SlabBlock) (new : Supply) : Type 0 where
  pub taken : HasTaken old class block new
  pub gave : GaveFirst (stacks_of old.stacks) class (slab_block block.start class block.number).at (stacks_of new.stacks)

-- all stacks of the class were empty
pub record HadNoStack (old : Supply) (class : ℕ) (new : Supply) : Type 0 where
  pub empty : (seat : ℕ) → stacks_of old.stacks seat class ≡ []
  pub same : new ≡ old
