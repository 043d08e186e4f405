-- The choice of a malloc: where its block may lie. It is stated over a view, which says all that the choice looks at: the
-- state of the machine has one (`State.antt`), and so has whatever else says as much of an arena, as its tables.
use Rattle.std.specs.Prelude.{◌≡◌, ◌≢◌, ◌⊎◌, ℕ, ◌*◌, ◌<◌, ◌≤◌, Option, Some}
use Rattle.size_classes.specs.Classes.{class_capacity, IsClassOf, granules_of}
use Rattle.heap_model.specs.Machine.{Range, slab_block, with_key}
use Rattle.heap_model.specs.Runs.{IsBestFit, HasNoFit}

pub record View : Type 1 where
  -- a granule lies in the heap, and in no large block and no slab
  pub free : ℕ → Type 0
  -- the class of the slab that begins at a granule
  pub slab : ℕ → Option ℕ
  -- in the slab that begins at a granule, the block of a class with a number overlaps no live block
  pub unused : ℕ → ℕ → ℕ → Type 0
  -- how many live blocks lie in the slab that begins at a granule
  pub live : ℕ → ℕ
  -- one of them has another size than that of the slab's class
  pub in_transition : ℕ → Type 0

-- what is looked at where a block of a slab is taken: the slabs, and which of their blocks are unused
pub record BlockView : Type 1 where
  pub slab : ℕ → Option ℕ
  pub unused : ℕ → ℕ → ℕ → Type 0

-- what is looked at where a slab may take another class: those, and the live blocks of slabs
pub record SlabView : Type 1 where
  pub blocks : BlockView
  pub live : ℕ → ℕ
  pub in_transition : ℕ → Type 0

abbrev pub block_view : View → BlockView
block_view v = record { slab = v.slab; unused = v.unused }

abbrev pub slab_view : View → SlabView
slab_view v = record { blocks = block_view v; live = v.live; in_transition = v.in_transition }

-- blocks of slabs

-- block `number` of class c in the slab at s is one, and unused
pub record IsUnusedBlock (v : BlockView) (s c number : ℕ) : Type 0 where
  pub within : number < class_capacity c
  pub unused : v.unused s c number

-- a slab of class c has an unused block of its class
pub record HasUnusedBlock (v : BlockView) (c : ℕ) : Type 0 where
  pub start : ℕ
  pub slab : v.slab start ≡ Some c
  pub number : ℕ
  pub block : IsUnusedBlock v start c number

-- the slab at s is fit for class c: it is not in transition and has another class d; at most 64 blocks live in it, and at
-- most a fifth of those that it holds; and some block of class c in it is unused
pub record IsFit (v : SlabView) (c s : ℕ) : Type 0 where
  pub class : ℕ
  pub slab : v.blocks.slab s ≡ Some class
  pub no_transition : ¬ (v.in_transition s)
  pub differs : c ≢ class
  pub few : v.live s ≤ 64
  pub sparse : 5 * v.live s ≤ class_capacity class
  pub number : ℕ
  pub block : IsUnusedBlock v.blocks s c number

-- the fit slab with the fewest live blocks, the lowest among equals
pub record IsBestSlab (v : SlabView) (c s : ℕ) : Type 0 where
  pub fit : IsFit v c s
  pub fewest : (t : ℕ) → IsFit v c t → v.live s ≤ v.live t
  pub lowest : (t : ℕ) → IsFit v c t → v.live t ≡ v.live s → s ≤ t

-- no slab is fit for class c
pub record HasNoFitSlab (v : SlabView) (c : ℕ) : Type 0 where
  pub none : (s : ℕ) → ¬ (IsFit v c s)

-- sites

-- where a block lies
pub data Site : Type 0 where
  -- on so many whole granules from one on
  Granules : (start count : ℕ) → Site
  -- in the slab at a start, which has the class: the block with this number
  InSlab : (start class number : ℕ) → Site
  -- in a slab that takes the class for it
  InMorph : (start class number : ℕ) → Site
  -- in a slab that is made for it
  InNewSlab : (start class number : ℕ) → Site

-- its bytes
abbrev pub range_of : Site → Range
range_of (Granules start count) = record { at = 16384 * start; size = 16384 * count }
range_of (InSlab start class number) = slab_block start class number
range_of (InMorph start class number) = slab_block start class number
range_of (InNewSlab start class number) = slab_block start class number

-- the slabs, once it is given
abbrev pub slabs_with : (ℕ → Option ℕ) → Site → ℕ → Option ℕ
slabs_with slab (Granules start count) = slab
slabs_with slab (InSlab start class number) = slab
slabs_with slab (InMorph start class number) = with_key slab start (Some class)
slabs_with slab (InNewSlab start class number) = with_key slab start (Some class)

-- a request above the largest class takes its granules at their best fit
pub record IsFromGranules (v : View) (size start count : ℕ) : Type 0 where
  pub large : 16384 < size
  pub count_is : count ≡ granules_of size
  pub fit : IsBestFit v.free count start

-- every other one takes a block of the least class that holds it: any unused one of a slab of the class
pub record IsFromSlab (v : View) (size start class number : ℕ) : Type 0 where
  pub least : IsClassOf size class
  pub slab : v.slab start ≡ Some class
  pub block : IsUnusedBlock (block_view v) start class number

-- where there is none, any unused one of the best slab that is fit for the class
pub record IsFromMorph (v : View) (size start class number : ℕ) : Type 0 where
  pub least : IsClassOf size class
  pub full : ¬ (HasUnusedBlock (block_view v) class)
  pub best : IsBestSlab (slab_view v) class start
  pub block : IsUnusedBlock (block_view v) start class number

-- where there is none either, any one of a new slab at the best fit of four granules
pub record IsFromNewSlab (v : View) (size start class number : ℕ) : Type 0 where
  pub least : IsClassOf size class
  pub full : ¬ (HasUnusedBlock (block_view v) class)
  pub no_fit : HasNoFitSlab (slab_view v) class
  pub fit : IsBestFit v.free 4 start
  pub within : number < class_capacity class

-- a site for a request of so many bytes
abbrev pub IsSite : View → ℕ → Site → Type 0
IsSite v size (Granules start count) = IsFromGranules v size start count
IsSite v size (InSlab start class number) = IsFromSlab v size start class number
IsSite v size (InMorph start class number) = IsFromMorph v size start class number
IsSite v size (InNewSlab start class number) = IsFromNewSlab v size start class number

-- a small request has no site
pub record HasNoSmallSite (v : View) (size : ℕ) : Type 0 where
  pub class : ℕ
  pub least : IsClassOf size class
  pub full : ¬ (HasUnusedBlock (block_view v) class)
  pub no_fit : HasNoFitSlab (slab_view v) class
  pub no_run : HasNoFit v.free 4

-- a large one has none
pub record HasNoLargeSite (v : View) (size : ℕ) : Type 0 where
  pub large : 16384 < size
  pub no_run : HasNoFit v.free (granules_of size)

abbrev pub HasNoSite : View → ℕ → Type 0
HasNoSite v size = HasNoSmallSite v size ⊎ HasNoLargeSite v size
