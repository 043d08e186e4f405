-- What a malloc and a free make of the indexes, whichever state they are those of: they follow a step of the machine with its
-- placement.
use Rattle.std.specs.Prelude.{◌≡◌, ℕ, ◌*◌, ◌<◌, Option, MatchOption, Some, None}
use Rattle.heap_model.specs.Machine.{Bounds, Range, Machine, IsLarge, with_key, IsOverlapFree}
use Rattle.heap_model.specs.Choice.{Site, range_of, IsSite, HasNoSite}
use Rattle.heap_model.specs.Slabs.{view_of}
use Rattle.heap_model.specs.Step.{with_block, without_block}
use Rattle.heap_model.specs.Placement.{IsStacked, IsReturned, without_left}
use Rattle.heap_model.specs.declared.call.Call.TheVariants.{Malloc}
use Rattle.heap_model.specs.declared.call.Reply.TheVariants.{Placed}
use Rattle.thread_cache.specs.Stacks.{stacks_of}
use Rattle.heap_indexes.specs.Indexes.{Indexes, AreIndexesOf}
use Rattle.heap_indexes.specs.declared.answer.Place.{Place}
use Rattle.heap_indexes.specs.declared.answer.Place.TheVariants.{Granules, InSlab, InMorph, InNewSlab}
use Rattle.heap_indexes.specs.declared.answer.Given.{Given}
use Rattle.heap_indexes.specs.declared.answer.Given.TheVariants as given

-- malloc

-- the site that a place names
abbrev pub site_of : Place → Site
site_of (Granules start granules) = Site.Granules start granules
site_of (InSlab start class number) = Site.InSlab start class number
site_of (InMorph start class number) = Site.InMorph start class number
site_of (InNewSlab start class number) = Site.InNewSlab start class number

-- A site was found for a request of a seat: whichever root has its block from then on, the indexes are those of that state, and
-- the stacks are what the placement makes of them.
pub record HasPlaced (b : Bounds) (m : Machine) (seat size : ℕ) (old : Indexes) (site : Site) (new : Indexes) : Type 0 where
  pub chosen : IsSite (view_of b m) size site
  pub indexes : (root : ℕ) → root < b.roots → m.block root ≡ None → AreIndexesOf b (with_block m root site) new
  pub stacked : (root : ℕ) → IsStacked b seat (record { machine = m; stacks = stacks_of old.supply.stacks }) (Malloc root size) (Placed (range_of site).at (range_of site).size) (record { machine = with_block m root site; stacks = stacks_of new.supply.stacks })

-- There is no site for a request of so many bytes: the indexes are those of the same state, with the same blocks to be given out.
pub record HasFoundNone (b : Bounds) (m : Machine) (size : ℕ) (old new : Indexes) : Type 0 where
  pub none : HasNoSite (view_of b m) size
  pub indexes : AreIndexesOf b m new
  pub supply : new.supply ≡ old.supply

-- by what was found
abbrev pub IsPlacedIn : Bounds → Machine → (seat size : ℕ) → Indexes → Option Place → Indexes → Type 0
IsPlacedIn b m seat size old found new = MatchOption found (HasFoundNone b m size old new) (λ place. HasPlaced b m seat size old (site_of place) new)

abbrev pub IsPlacedBy : (seat size : ℕ) → Indexes → Option Place → Indexes → Type 0
IsPlacedBy seat size old found new = (b : Bounds) (m : Machine) → IsOverlapFree b m → AreIndexesOf b m old → IsPlacedIn b m seat size old found new

-- free

-- a root's block was given back by a seat
pub record IsGivenBack (b : Bounds) (m : Machine) (seat root : ℕ) (range : Range) (old new : Indexes) : Type 0 where
  pub indexes : AreIndexesOf b (without_block b m root range) new
  pub stacked : IsReturned (without_block b m root range) (without_left b m (without_block b m root range) (stacks_of old.supply.stacks)) seat range (stacks_of new.supply.stacks)

-- what it was: whole granules from one on; a block of a slab, where all slabs stay; or the last one of a slab, which left
abbrev pub IsGivenAs : Machine → Machine → Range → Given → Type 0
IsGivenAs m next range (given.Granules start) = IsLarge range × (range.at ≡ 16384 * start)
IsGivenAs m next range given.Block = ¬ (IsLarge range) × ((s : ℕ) → next.slab s ≡ m.slab s)
IsGivenAs m next range (given.Slab start) = ¬ (IsLarge range) × ((class : ℕ) × (m.slab start ≡ Some class)) × ((s : ℕ) → next.slab s ≡ with_key m.slab start None s)

-- a root of some state that is free of overlaps names the range, and the indexes are those of that state
pub record HasLive (x : Indexes) (range : Range) : Type 0 where
  pub bounds : Bounds
  pub machine : Machine
  pub root : ℕ
  pub apart : IsOverlapFree bounds machine
  pub are : AreIndexesOf bounds machine x
  pub named : machine.block root ≡ Some range

-- by every state in which a root names it
abbrev pub IsGivenBy : (seat : ℕ) → Range → Indexes → Given → Indexes → Type 0
IsGivenBy seat range old given new =
    (b : Bounds) (m : Machine) (root : ℕ) → IsOverlapFree b m → AreIndexesOf b m old → m.block root ≡ Some range →
    IsGivenBack b m seat root range old new × IsGivenAs m (without_block b m root range) range given
