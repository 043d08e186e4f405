-- What a call decides before its first store, over the tables of the image at its begin.
use Rattle.std.specs.Prelude.{◌≡◌, ◌≢◌, ℕ, ◌+◌, ◌-◌, ◌*◌, ◌<◌, ◌≤◌, true, Option, MatchOption, Result, Ok, Err}
use Rattle.size_classes.specs.Classes.{class_size, class_capacity, IsClassOf}
use Rattle.image_tables.specs.Forms.{normal_kind}
use Rattle.pmem_lines.specs.Pmem.{PmemState, words_of}
use Rattle.image_tables.specs.Tables.{Tables, tables_of}
use Rattle.heap_model.specs.Machine.{Bounds, Range, slab_block}
use Rattle.heap_model.specs.Choice.{View, HasUnusedBlock, IsFit, IsBestSlab, IsFromGranules, IsFromSlab, IsFromNewSlab, HasNoSite, block_view, slab_view}
use Rattle.heap_check.specs.Heap.{IsUnusedIn}
use Rattle.heap_check.specs.Sound.{IsInSlab}
use Rattle.heap_check.specs.Image.{bounds_of}
use Rattle.attach_steps.specs.declared.block.SmallBlock.{SmallBlock}
use Rattle.attach_steps.specs.declared.block.OldBlock.{OldBlock}
use Rattle.slab_morph.specs.SlabHeaders.{IsOldAt}
use Rattle.slab_morph.specs.Fitness.{held_view}
use Rattle.slab_index.specs.declared.block.SlabBlock.{SlabBlock}
use Rattle.block_supply.specs.Supply.{Supply, TookBlock, HadNoOpen}
use Rattle.arena_core.specs.declared.volatile.Volatile.{Volatile}
use Rattle.arena_core.specs.Arena.{IsArena}
use Rattle.arena_core.specs.declared.plan.Place.{Place}
use Rattle.arena_core.specs.declared.plan.Place.TheVariants.{Large, Small, Morph, Fresh}
use Rattle.arena_core.specs.declared.plan.Held.{Held}
use Rattle.arena_core.specs.declared.plan.Held.TheVariants as held
use Rattle.arena_core.specs.declared.answer.MallocRefusal.{MallocRefusal}
use Rattle.arena_core.specs.declared.answer.MallocRefusal.TheVariants.{NoRoot, Occupied, ZeroSize, TooLarge, NoSpace}
use Rattle.arena_core.specs.declared.answer.FreeRefusal.{FreeRefusal}
use Rattle.arena_core.specs.declared.answer.FreeRefusal.TheVariants as refusals
use Rattle.heap_check.specs.Views.{tables_view, IsVacantRow}

-- malloc

-- the root is one whose word is 0, and the size is some and at most the whole heap's
pub record IsAskedOf (b : Bounds) (t : Tables) (root size : ℕ) : Type 0 where
  pub below : root < b.roots
  pub none : t.root root ≡ 0
  pub some : size ≢ 0
  pub most : size ≤ (b.granules - b.first) * 16384

-- these granules are to be given to a root
pub record IsGivable (b : Bounds) (t : Tables) (root start count : ℕ) : Type 0 where
  pub below : root < b.roots
  pub none : t.root root ≡ 0
  pub many : 2 ≤ count
  pub row : IsVacantRow b t start count

-- a block of a slab of the class is to be given, which is unused
pub record IsGivableBlock (t : Tables) (block : SmallBlock) (class : ℕ) : Type 0 where
  pub slab : t.slab block.start ≡ true
  pub class_is : (t.header block.start).class ≡ class
  pub below : block.number < class_capacity class
  pub unused : IsUnusedIn t block.start class block.number
  pub at : block.at ≡ (slab_block block.start class block.number).at

-- it is the block of a slab at a start with this number, by a class
pub record IsBlockAs (block : SmallBlock) (start class number : ℕ) : Type 0 where
  pub start_is : block.start ≡ start
  pub number_is : block.number ≡ number
  pub at_is : block.at ≡ (slab_block start class number).at

-- a slab is the one that takes a class for a request: whichever unused block of it is given, that is a site
pub record IsFromFit (v : View) (size start class : ℕ) : Type 0 where
  pub least : IsClassOf size class
  pub full : ¬ (HasUnusedBlock (block_view v) class)
  pub best : IsBestSlab (slab_view v) class start

-- a request has a site at a place
abbrev pub HasSiteAt : View → ℕ → Place → Type 0
HasSiteAt v size (Large start count) = IsFromGranules v size start count
HasSiteAt v size (Small block class) = IsFromSlab v size block.start class block.number
HasSiteAt v size (Morph start class) = IsFromFit v size start class
HasSiteAt v size (Fresh start class) = IsFromNewSlab v size start class 0

-- a slab may take a class, by the blocks that it holds: it is normal, and fit for the class
pub record IsMorphable (t : Tables) (start class : ℕ) : Type 0 where
  pub slab : t.slab start ≡ true
  pub normal : (t.header start).kind ≡ normal_kind
  pub fit : IsFit (held_view t) class start

-- what a place has to be, to be given to a root
abbrev pub IsPlaceFor : Bounds → Tables → ℕ → Place → Type 0
IsPlaceFor b t root (Large start count) = IsGivable b t root start count
IsPlaceFor b t root (Small block class) = IsGivableBlock t block class
IsPlaceFor b t root (Morph start class) = IsMorphable t start class
IsPlaceFor b t root (Fresh start class) = IsVacantRow b t start 4

-- a place for a request: a site for it
pub record IsPlacing (b : Bounds) (t : Tables) (root size : ℕ) (place : Place) : Type 0 where
  pub site : HasSiteAt (tables_view b t) size place
  pub place_for : IsPlaceFor b t root place

-- what is found for a request: no place where it has no site
abbrev pub IsFound : Bounds → Tables → ℕ → ℕ → Option Place → Type 0
IsFound b t root size found = MatchOption found (HasNoSite (tables_view b t) size) (IsPlacing b t root size)

abbrev pub IsMallocPlan : Bounds → Tables → ℕ → ℕ → Result Place MallocRefusal → Type 0
IsMallocPlan b t root size (Ok place) = IsAskedOf b t root size × IsPlacing b t root size place
IsMallocPlan b t root size (Err NoRoot) = b.roots ≤ root
IsMallocPlan b t root size (Err (Occupied at)) = (root < b.roots) × (t.root root ≡ at) × (at ≢ 0)
IsMallocPlan b t root size (Err ZeroSize) = (root < b.roots) × (t.root root ≡ 0) × (size ≡ 0)
IsMallocPlan b t root size (Err TooLarge) = (root < b.roots) × (t.root root ≡ 0) × ((b.granules - b.first) * 16384 < size)
IsMallocPlan b t root size (Err NoSpace) = IsAskedOf b t root size × HasNoSite (tables_view b t) size

-- a block of a slab, by its number
abbrev pub number_of : SmallBlock → SlabBlock
number_of block = record { start = block.start; number = block.number }

-- what a place takes of the supply: a block of a slab is taken for the seat; for a slab that takes the class, or a new one,
-- none of the class is open
abbrev pub IsSuppliedAt : Supply → Supply → ℕ → Place → Type 0
IsSuppliedAt old new seat (Large start count) = new ≡ old
IsSuppliedAt old new seat (Small block class) = TookBlock old seat class (number_of block) new
IsSuppliedAt old new seat (Morph start class) = HadNoOpen old class new
IsSuppliedAt old new seat (Fresh start class) = HadNoOpen old class new

-- the same of what is found, or of a plan: nothing where there is no place
abbrev pub IsSuppliedFor : Supply → Supply → ℕ → Option Place → Type 0
IsSuppliedFor old new seat found = MatchOption found (new ≡ old) (IsSuppliedAt old new seat)

abbrev pub IsSupplied : Supply → Supply → ℕ → Result Place MallocRefusal → Type 0
IsSupplied old new seat (Ok place) = IsSuppliedAt old new seat place
IsSupplied old new seat (Err refusal) = new ≡ old

-- the plan of a malloc was made from what an arena kept: since then the supply alone has changed
pub record IsPlanned (device : PmemState) (was now : Volatile) (seat root size : ℕ) (plan : Result Place MallocRefusal) : Type 0 where
  pub arena : IsArena device was
  pub supplied : IsSupplied was.supply now.supply seat plan
  pub rest : now ≡ record was { supply = now.supply }
  pub is : IsMallocPlan (bounds_of (words_of device)) (tables_of (words_of device)) root size plan

-- free

-- a root names the large extent at a start
pub record IsTakable (b : Bounds) (t : Tables) (root start count : ℕ) : Type 0 where
  pub below : root < b.roots
  pub named : t.root root ≡ 16384 * start
  pub live : t.large start ≡ count
  pub many : 2 ≤ count
  pub low : b.first ≤ start
  pub high : start + count ≤ b.granules

-- a slab of the class begins at a granule
pub record IsSlabAt (t : Tables) (start class : ℕ) : Type 0 where
  pub slab : t.slab start ≡ true
  pub class_is : (t.header start).class ≡ class

-- a root names an address in a slab
pub record IsRootIn (b : Bounds) (t : Tables) (root start at : ℕ) : Type 0 where
  pub rooted : root < b.roots
  pub named : t.root root ≡ at
  pub inside : IsInSlab t start at

-- a root names a block of a slab
pub record IsNamedSmall (b : Bounds) (t : Tables) (root : ℕ) (block : SmallBlock) (class : ℕ) : Type 0 where
  pub rooted : root < b.roots
  pub named : t.root root ≡ block.at
  pub slab : t.slab block.start ≡ true
  pub class_is : (t.header block.start).class ≡ class
  pub below : block.number < class_capacity class
  pub at : block.at ≡ (slab_block block.start class block.number).at
  pub set : (t.header block.start).bit block.number ≡ true

-- a root names a live old block of a slab that took another class
pub record IsNamedOld (b : Bounds) (t : Tables) (root : ℕ) (block : OldBlock) (class : ℕ) : Type 0 where
  pub rooted : root < b.roots
  pub named : t.root root ≡ block.at
  pub slab : t.slab block.start ≡ true
  pub old_is : (t.header block.start).old ≡ class
  pub is_class : class < 36
  pub place : IsOldAt t block.start block.at block.place

-- what a root names
abbrev pub IsHeldBy : Bounds → Tables → ℕ → Held → Type 0
IsHeldBy b t root (held.Large start count) = IsTakable b t root start count
IsHeldBy b t root (held.Small block class) = IsNamedSmall b t root block class
IsHeldBy b t root (held.Old block class) = IsNamedOld b t root block class

abbrev pub IsFreePlan : Bounds → Tables → ℕ → Result Held FreeRefusal → Type 0
IsFreePlan b t root (Ok what) = IsHeldBy b t root what
IsFreePlan b t root (Err refusals.NoRoot) = b.roots ≤ root
IsFreePlan b t root (Err refusals.Empty) = (root < b.roots) × (t.root root ≡ 0)

-- the block that is held
abbrev pub range_held : Held → Range
range_held (held.Large start count) = record { at = 16384 * start; size = 16384 * count }
range_held (held.Small block class) = slab_block block.start class block.number
range_held (held.Old block class) = record { at = block.at; size = class_size class }
