-- The supply of small blocks: the slabs of an arena, and which of their blocks may be given out. Such a block is open: it is
-- available, or it is reserved, so that its address is in a stack of the slab's class.
use Rattle.std.specs.Prelude.{◌≡◌, ◌≢◌, ◌⊎◌, ◌↔◌, ℕ, ◌+◌, ◌<◌, ◌≤◌, true, [], ◌∷◌, length, Option, Some, None}
use Rattle.size_classes.specs.Classes.{class_capacity}
use Rattle.heap_model.specs.Machine.{with_key, slab_block}
use Rattle.heap_model.specs.Choice.{BlockView}
use Rattle.heap_model.specs.Step.{First}
use Rattle.heap_model.specs.Placement.{Stacks, with_stack, without_slab, Has, IsInNoStack, HasAvailable, IsRefill, HasTop, HasStacked, IsPop}
use Rattle.slab_index.specs.declared.block.SlabBlock.{SlabBlock}
use Rattle.slab_index.specs.SlabSet.{SlabSet, class_in, is_available, HasNoBlock}
use Rattle.thread_cache.specs.Stacks.{StackTable, stacks_of}

pub record Supply : Type 0 where
  pub slabs : SlabSet
  pub stacks : StackTable

-- the block of the slab at a start with this number is reserved
pub record IsStacked (supply : Supply) (start number : ℕ) : Type 0 where
  pub class : ℕ
  pub slab : class_in supply.slabs start ≡ Some class
  pub within : number < class_capacity class
  pub seat : ℕ
  pub has : Has (stacks_of supply.stacks seat class) (slab_block start class number).at

-- it may be given out
abbrev pub MayBeGiven : Supply → ℕ → ℕ → Type 0
MayBeGiven supply start number = (is_available supply.slabs start number ≡ true) ⊎ IsStacked supply start number

-- slabs

-- a granule lies in the slab of a class at a start, of slabs by their starts
pub record IsInSlabOf (classes : ℕ → Option ℕ) (k start class : ℕ) : Type 0 where
  pub slab : classes start ≡ Some class
  pub low : start ≤ k
  pub high : k < start + 4

-- it lies in none
pub record IsInNoSlabOf (classes : ℕ → Option ℕ) (k : ℕ) : Type 0 where
  pub none : (start : ℕ) → start ≤ k → k < start + 4 → classes start ≡ None

-- four granules from a start on are in no slab
pub record IsClearOf (supply : Supply) (start : ℕ) : Type 0 where
  pub apart : (other class : ℕ) → class_in supply.slabs other ≡ Some class → (start + 4 ≤ other) ⊎ (other + 4 ≤ start)

-- a slab came, in which some blocks are open, and none is in a stack: the other slabs, their open blocks and all stacks are
-- as before
pub record HasSlabMore (old new : Supply) (start class : ℕ) (Opens : ℕ → Type 0) : Type 0 where
  pub granules : new.slabs.granules ≡ old.slabs.granules
  pub classes : (s : ℕ) → class_in new.slabs s ≡ with_key (class_in old.slabs) start (Some class) s
  pub here : (i : ℕ) → MayBeGiven new start i ↔ Opens i
  pub loose : (i : ℕ) → i < class_capacity class → IsInNoStack (stacks_of new.stacks) (slab_block start class i).at
  pub others : (s i : ℕ) → s ≢ start → MayBeGiven new s i ↔ MayBeGiven old s i
  pub stacks : new.stacks ≡ old.stacks

-- a slab went, with its blocks: they are in no stack any more, and the others are as before
pub record HasSlabLess (old new : Supply) (start : ℕ) : Type 0 where
  pub granules : new.slabs.granules ≡ old.slabs.granules
  pub classes : (s : ℕ) → class_in new.slabs s ≡ with_key (class_in old.slabs) start None s
  pub others : (s i : ℕ) → s ≢ start → MayBeGiven new s i ↔ MayBeGiven old s i
  pub stacks : stacks_of new.stacks ≡ without_slab (stacks_of old.stacks) start

-- blocks

-- a block is open no more, and all other blocks are as before
pub record IsWithout (old new : Supply) (start number : ℕ) : Type 0 where
  pub granules : new.slabs.granules ≡ old.slabs.granules
  pub classes : (s : ℕ) → class_in new.slabs s ≡ class_in old.slabs s
  pub gone : ¬ (MayBeGiven new start number)
  pub others : (s i : ℕ) → (s ≢ start) ⊎ (i ≢ number) → MayBeGiven new s i ↔ MayBeGiven old s i

-- a block is open, and all other blocks are as before
pub record IsWith (old new : Supply) (start number : ℕ) : Type 0 where
  pub granules : new.slabs.granules ≡ old.slabs.granules
  pub classes : (s : ℕ) → class_in new.slabs s ≡ class_in old.slabs s
  pub here : MayBeGiven new start number
  pub others : (s i : ℕ) → (s ≢ start) ⊎ (i ≢ number) → MayBeGiven new s i ↔ MayBeGiven old s i

-- the slabs of a supply, and its open blocks
abbrev pub supply_view : Supply → BlockView
supply_view supply = record { slab = class_in supply.slabs; unused = λ s c number. MayBeGiven supply s number }

-- the address that a seat is given of a class, and the stacks after it, as the placement says where no slab takes the class
-- or is made for it: the top of the seat's own stack, or of a refill, or of the stack of the lowest-numbered seat
abbrev pub IsServed : BlockView → Stacks → (seat class at : ℕ) → Stacks → Type 0
IsServed v stacks seat class at after =
    First (HasTop stacks seat class) (λ top. IsPop top at after)
    (First (HasAvailable v stacks class) (λ _. IsRefill v stacks seat class at after)
    ((stacked : HasStacked stacks class) × IsPop stacked.first.top at after))

-- a block of the class was taken for a seat
pub record TookBlock (old : Supply) (seat class : ℕ) (block : SlabBlock) (new : Supply) : Type 0 where
  pub slab : class_in old.slabs block.start ≡ Some class
  pub within : block.number < class_capacity class
  pub was_open : MayBeGiven old block.start block.number
  pub without : IsWithout old new block.start block.number
  pub served : IsServed (supply_view old) (stacks_of old.stacks) seat class (slab_block block.start class block.number).at (stacks_of new.stacks)

-- no block of the class is open
pub record HasNoOpen (supply : Supply) (class : ℕ) : Type 0 where
  pub used : HasNoBlock supply.slabs class
  pub empty : (seat : ℕ) → stacks_of supply.stacks seat class ≡ []

-- so nothing changed
pub record HadNoOpen (old : Supply) (class : ℕ) (new : Supply) : Type 0 where
  pub none : HasNoOpen old class
  pub same : new ≡ old

-- an address goes on top of the stack of a seat and class where it has less than eight, and else on none
abbrev pub IsPutOn : Stacks → (seat class at : ℕ) → Stacks → Type 0
IsPutOn stacks seat class at after = First (length (stacks seat class) < 8) (λ _. after ≡ with_stack stacks seat class (at ∷ stacks seat class)) (after ≡ stacks)

-- a block of the class came back from a seat
pub record CameBack (old : Supply) (seat class : ℕ) (block : SlabBlock) (new : Supply) : Type 0 where
  pub with_block : IsWith old new block.start block.number
  pub stacks : IsPutOn (stacks_of old.stacks) seat class (slab_block block.start class block.number).at (stacks_of new.stacks)
