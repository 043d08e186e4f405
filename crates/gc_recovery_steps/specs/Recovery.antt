-- What recovery of an image of the GC variant stores, what it keeps, and what a crash within it leaves.
use Rattle.std.specs.Prelude.{◌≡◌, ◌⊎◌, ℕ, ◌≤◌, List, [], ◌++◌, length, Some}
use Rattle.pmem_lines.specs.Words.{word_at}
use Rattle.pmem_lines.specs.declared.event.Event.{Event}
use Rattle.pmem_lines.specs.Events.{reading}
use Rattle.pmem_lines.specs.Pmem.{PmemState, words_of}
use Rattle.pmem_lines.specs.Steps.{IsQuietStep}
use Rattle.pool_layout.specs.Places.{fields_word}
use Rattle.heap_check.specs.Image.{bounds_of}
use Rattle.image_defects.specs.Least.{HasNone}
use Rattle.gc_check.specs.Heap.{gc_tables}
use Rattle.gc_check.specs.Image.{IsGcSoundImage}
use Rattle.gc_check.specs.State.{gc_slabs, HaveSameGcHeap, KeepsGcBlocks}
use Rattle.gc_steps.specs.Extents.{drop_events, LoosensNone}
use Rattle.gc_recovery_steps.specs.declared.search.Loose.{Loose}
use Rattle.gc_recovery_steps.specs.declared.search.Loose.TheVariants.{Large, Empty}
use Rattle.gc_recovery_steps.specs.Kinds.{IsLooseOf}

-- what is kept

-- the image is sound, with the same numbers and the same heap, and each block has its words
pub record KeepsGcHeap (words image : List ℕ) : Type 0 where
  pub sound : IsGcSoundImage image
  pub bounds : bounds_of image ≡ bounds_of words
  pub heap : HaveSameGcHeap words image
  pub blocks : KeepsGcBlocks words image

-- each live slab was one of the same class
pub record KeepsGcSlabs (words new : List ℕ) : Type 0 where
  pub classes : (start class : ℕ) → gc_slabs new start ≡ Some class → gc_slabs words start ≡ Some class

-- what is stored

-- the Tomb for a loose thing of the kind
pub record IsTombFor (kind : Loose) (words : List ℕ) (events : List Event) : Type 0 where
  pub start : ℕ
  pub loose : IsLooseOf kind (gc_tables words) start
  pub is : events ≡ drop_events words start

-- it is stored where there is such a thing, and else nothing
abbrev pub DropsLoose : Loose → List ℕ → List Event → Type 0
DropsLoose kind words events = (HasNone (IsLooseOf kind (gc_tables words)) × (events ≡ [])) ⊎ IsTombFor kind words events

-- the large extent that no root names, and then the slab in which no root's block lies
pub record GcRecovers (words : List ℕ) (events : List Event) : Type 0 where
  pub front : List Event
  pub back : List Event
  pub is : events ≡ front ++ back
  pub large : DropsLoose Large words front
  pub slab : DropsLoose Empty (reading words front) back

-- Some events, so many at most, that stand in this relation to the words before them. A crash within them keeps the heap.
pub record IsPart (old new : PmemState) (Stores : List ℕ → List Event → Type 0) (most : ℕ) : Type 0 where
  pub events : List Event
  pub stores : Stores (words_of old) events
  pub few : length events ≤ most
  pub step : IsQuietStep old new events (KeepsGcHeap (words_of old))

-- what is left

-- nothing of the kind is loose any more, nothing comes to be loose, no slab comes, and the header line says what it said
pub record IsRid (kind : Loose) (words new : List ℕ) : Type 0 where
  pub none : HasNone (IsLooseOf kind (gc_tables new))
  pub loose : LoosensNone words new
  pub slabs : KeepsGcSlabs words new
  pub header : word_at new fields_word ≡ word_at words fields_word
