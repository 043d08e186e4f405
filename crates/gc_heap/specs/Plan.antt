-- What a call decides before its first store, and what its parts do.
use Rattle.std.specs.Prelude.{◌≡◌, ◌≢◌, ℕ, ◌+◌, ◌-◌, ◌*◌, ◌%◌, ◌<◌, ◌≤◌, List, [], length, Result, Ok, Err, Some, None}
use Rattle.pmem_lines.specs.declared.event.Event.{Event}
use Rattle.size_classes.specs.Classes.{class_capacity}
use Rattle.heap_model.specs.declared.block.Block.{Block}
use Rattle.heap_model.specs.Machine.{Range, Machine, with_key}
use Rattle.heap_model.specs.Choice.{Site, range_of, slabs_with, IsSite}
use Rattle.heap_model.specs.Slabs.{view_of}
use Rattle.heap_model.specs.Step.{slabs_without, without_block}
use Rattle.heap_indexes.specs.Indexes.{Indexes}
use Rattle.heap_indexes.specs.Steps.{site_of, IsPlacedIn, IsGivenAs}
use Rattle.heap_indexes.specs.declared.answer.Place.{Place}
use Rattle.heap_indexes.specs.declared.answer.Place.TheVariants.{Granules, InSlab, InMorph, InNewSlab}
use Rattle.heap_indexes.specs.declared.answer.Given.{Given}
use Rattle.heap_indexes.specs.declared.answer.Given.TheVariants as given
use Rattle.heap_check.specs.Image.{bounds_of}
use Rattle.arena_core.specs.declared.answer.BlockRefusal.{BlockRefusal}
use Rattle.arena_core.specs.declared.answer.BlockRefusal.TheVariants.{NoRoot, Empty, OutOfRange}
use Rattle.arena_core.specs.declared.answer.MallocRefusal.{MallocRefusal}
use Rattle.arena_core.specs.declared.answer.MallocRefusal.TheVariants as mallocs
use Rattle.arena_core.specs.declared.answer.FreeRefusal.{FreeRefusal}
use Rattle.arena_core.specs.declared.answer.FreeRefusal.TheVariants as frees
use Rattle.arena_core.specs.Payload.{range_of_block}
use Rattle.gc_check.specs.Heap.{small_word, gc_tables}
use Rattle.gc_check.specs.Image.{IsGcExactImage, IsGcExactButImage}
use Rattle.gc_check.specs.State.{gc_blocks, gc_slabs, HasGcState, HaveSameGcHeap}
use Rattle.gc_steps.specs.Roots.{root_events}
use Rattle.gc_steps.specs.Slabs.{class_events}
use Rattle.gc_steps.specs.Extents.{slab_events, large_events}
use Rattle.gc_heap.specs.Arena.{state_in}
use Rattle.gc_heap.specs.Events.{gone_events}

-- the block of a root

-- a root has this block, whose words lie inside
pub record HasGcBlockAt (words : List ℕ) (root : ℕ) (range : Range) : Type 0 where
  pub rooted : root < (bounds_of words).roots
  pub named : gc_blocks words root ≡ Some range
  pub place : (gc_tables words).root root ≡ range.at
  pub aligned : range.at % 8 ≡ 0
  pub inside : range.at + range.size ≤ 8 * length words
  pub few : length words ≤ 8388608

-- the block of a root, or why there is none
abbrev pub IsGcBlockPlan : List ℕ → ℕ → Result Block BlockRefusal → Type 0
IsGcBlockPlan words root (Ok block) = HasGcBlockAt words root (range_of_block block) × (block.root ≡ root)
IsGcBlockPlan words root (Err NoRoot) = (bounds_of words).roots ≤ root
IsGcBlockPlan words root (Err Empty) = (root < (bounds_of words).roots) × (gc_blocks words root ≡ None)
IsGcBlockPlan words root (Err OutOfRange) = ⊥

-- malloc

-- a request is looked at further: its root has no block, and the heap might have so many bytes
pub record IsRequest (words : List ℕ) (root size : ℕ) : Type 0 where
  pub rooted : root < (bounds_of words).roots
  pub none : gc_blocks words root ≡ None
  pub some : size ≢ 0
  pub fits : size ≤ ((bounds_of words).granules - (bounds_of words).first) * 16384

-- or why it is not
abbrev pub IsRequestPlan : List ℕ → (root size : ℕ) → Result (Unit {0}) MallocRefusal → Type 0
IsRequestPlan words root size (Ok done) = IsRequest words root size
IsRequestPlan words root size (Err mallocs.NoRoot) = (bounds_of words).roots ≤ root
IsRequestPlan words root size (Err (mallocs.Occupied at)) = (root < (bounds_of words).roots) × ((range : Range) × (gc_blocks words root ≡ Some range) × (at ≡ range.at))
IsRequestPlan words root size (Err mallocs.ZeroSize) = (root < (bounds_of words).roots) × (gc_blocks words root ≡ None) × (size ≡ 0)
IsRequestPlan words root size (Err mallocs.TooLarge) = (root < (bounds_of words).roots) × (gc_blocks words root ≡ None) × (size ≢ 0) × (((bounds_of words).granules - (bounds_of words).first) * 16384 < size)
IsRequestPlan words root size (Err mallocs.NoSpace) = ⊥

-- the place of a site that the state of these words has for some request
pub record HasPlaceFor (words : List ℕ) (place : Place) : Type 0 where
  pub size : ℕ
  pub chosen : IsSite (view_of (bounds_of words) (state_in words)) size (site_of place)

-- its granules and its number lie in an arena of this variant
abbrev pub IsBlockPlace : (start class number : ℕ) → Type 0
IsBlockPlace start class number = (start + 4 ≤ 1024) × (class < 36) × (number < class_capacity class)

abbrev pub IsInReach : Place → Type 0
IsInReach (Granules start granules) = (2 ≤ granules) × (start + granules ≤ 1024)
IsInReach (InSlab start class number) = IsBlockPlace start class number
IsInReach (InMorph start class number) = IsBlockPlace start class number
IsInReach (InNewSlab start class number) = IsBlockPlace start class number

-- the granule that a place begins at
abbrev pub start_of_place : Place → ℕ
start_of_place (Granules start granules) = start
start_of_place (InSlab start class number) = start
start_of_place (InMorph start class number) = start
start_of_place (InNewSlab start class number) = start

-- the word that a root gets for it
abbrev pub word_of_place : Place → ℕ
word_of_place (Granules start granules) = (range_of (Site.Granules start granules)).at
word_of_place (InSlab start class number) = small_word (range_of (Site.InSlab start class number)).at class
word_of_place (InMorph start class number) = small_word (range_of (Site.InMorph start class number)).at class
word_of_place (InNewSlab start class number) = small_word (range_of (Site.InNewSlab start class number)).at class

-- the events behind which it is there for a root
abbrev pub prepare_events : List ℕ → Place → List Event
prepare_events words (Granules start granules) = large_events words start granules
prepare_events words (InSlab start class number) = []
prepare_events words (InMorph start class number) = class_events start class
prepare_events words (InNewSlab start class number) = slab_events words start class

-- how many granules a large extent has for it
abbrev pub IsWideFor : List ℕ → Place → Type 0
IsWideFor new (Granules start granules) = (gc_tables new).large start ≡ granules
IsWideFor new (InSlab start class number) = Unit {0}
IsWideFor new (InMorph start class number) = Unit {0}
IsWideFor new (InNewSlab start class number) = Unit {0}

-- it is there: the image is exact but for the extent at its start, the blocks are the same, and the slabs are those with it
pub record IsPrepared (words : List ℕ) (place : Place) (new : List ℕ) : Type 0 where
  pub image : IsGcExactButImage new (start_of_place place)
  pub bounds : bounds_of new ≡ bounds_of words
  pub heap : HaveSameGcHeap words new
  pub slabs : (start : ℕ) → gc_slabs new start ≡ slabs_with (gc_slabs words) (site_of place) start
  pub wide : IsWideFor new place

-- the root has the block, and the image is exact
pub record IsPlacedWords (words : List ℕ) (root : ℕ) (place : Place) (new : List ℕ) : Type 0 where
  pub image : IsGcExactImage new
  pub bounds : bounds_of new ≡ bounds_of words
  pub blocks : (other : ℕ) → gc_blocks new other ≡ with_key (gc_blocks words) root (Some (range_of (site_of place))) other
  pub slabs : (start : ℕ) → gc_slabs new start ≡ slabs_with (gc_slabs words) (site_of place) start

-- what a malloc decides: a refusal, or a place that the indexes found and gave
abbrev pub IsGcMallocPlan : List ℕ → (seat root size : ℕ) → Indexes → Result Place MallocRefusal → Indexes → Type 0
IsGcMallocPlan words seat root size old (Ok place) new = IsRequest words root size × ((m : Machine) → HasGcState words m → IsPlacedIn (bounds_of words) m seat size old (Some place) new)
IsGcMallocPlan words seat root size old (Err mallocs.NoSpace) new = IsRequest words root size × ((m : Machine) → HasGcState words m → IsPlacedIn (bounds_of words) m seat size old None new)
IsGcMallocPlan words seat root size old (Err refusal) new = IsRequestPlan words root size (Err refusal) × (new ≡ old)

-- free

-- the block that a free takes, or why there is none
abbrev pub IsGcFreePlan : List ℕ → ℕ → Result Block FreeRefusal → Type 0
IsGcFreePlan words root (Ok block) = HasGcBlockAt words root (range_of_block block)
IsGcFreePlan words root (Err frees.NoRoot) = (bounds_of words).roots ≤ root
IsGcFreePlan words root (Err frees.Empty) = (root < (bounds_of words).roots) × (gc_blocks words root ≡ None)

-- the events of a free, by what came back
abbrev pub given_events : List ℕ → ℕ → Given → List Event
given_events words root (given.Granules start) = gone_events words root start
given_events words root given.Block = root_events root 0
given_events words root (given.Slab start) = gone_events words root start

-- a root names a range, which came back as this
pub record HasGivenAs (words : List ℕ) (root : ℕ) (range : Range) (what : Given) : Type 0 where
  pub rooted : root < (bounds_of words).roots
  pub named : gc_blocks words root ≡ Some range
  pub as_what : IsGivenAs (state_in words) (without_block (bounds_of words) (state_in words) root range) range what

-- the root has lost it, and the image is exact
pub record IsFreedWords (words : List ℕ) (root : ℕ) (range : Range) (new : List ℕ) : Type 0 where
  pub image : IsGcExactImage new
  pub bounds : bounds_of new ≡ bounds_of words
  pub blocks : (other : ℕ) → gc_blocks new other ≡ with_key (gc_blocks words) root None other
  pub slabs : (start : ℕ) → gc_slabs new start ≡ slabs_without (bounds_of words) (state_in words) root range start

-- some root has this word
pub record IsNamedIn (words : List ℕ) (word : ℕ) : Type 0 where
  pub root : ℕ
  pub is : (gc_tables words).word root ≡ word
  pub some : word ≢ 0
