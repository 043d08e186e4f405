-- An extent comes to vacant granules, or goes where no root's block lies in it: the events, when it may be, and what it leaves.
use Rattle.std.specs.Prelude.{◌≡◌, ◌⊎◌, ℕ, ◌+◌, ◌<◌, ◌≤◌, List, ◌++◌, Some, None}
use Rattle.pmem_lines.specs.Words.{word_at}
use Rattle.pmem_lines.specs.declared.event.Event.{Event}
use Rattle.pmem_lines.specs.Events.{reading}
use Rattle.book_log.specs.declared.entry.LogEntry.TheVariants.{Large, Slab, Tomb}
use Rattle.log_steps.specs.Events.{log_events}
use Rattle.heap_model.specs.Machine.{with_key}
use Rattle.pool_layout.specs.Places.{fields_word}
use Rattle.heap_check.specs.Image.{bounds_of}
use Rattle.heap_check.specs.Sound.{IsVacant, IsLooseLarge, IsEmptySlab}
use Rattle.gc_check.specs.Heap.{gc_tables}
use Rattle.gc_check.specs.Sound.{IsGcExactBut}
use Rattle.gc_check.specs.Image.{IsGcSoundImage, IsGcExactImage, IsGcExactButImage}
use Rattle.gc_check.specs.State.{gc_slabs, HaveSameGcHeap}
use Rattle.gc_steps.specs.Slabs.{class_events}

-- events

-- a slab comes: its state word, and then its extent in the log
abbrev pub slab_events : List ℕ → ℕ → ℕ → List Event
slab_events words start class = class_events start class ++ log_events (reading words (class_events start class)) (Slab start)

-- a large extent comes
abbrev pub large_events : List ℕ → ℕ → ℕ → List Event
large_events words start granules = log_events words (Large start granules)

-- an extent goes: a Tomb for it goes into the log
abbrev pub drop_events : List ℕ → ℕ → List Event
drop_events words start = log_events words (Tomb start)

-- when

-- the image is exact, and so many granules from the start on are vacant
pub record MayBeCreated (words : List ℕ) (start granules : ℕ) : Type 0 where
  pub image : IsGcExactImage words
  pub vacant : (k : ℕ) → start ≤ k → k < start + granules → IsVacant (bounds_of words) (gc_tables words) k

-- The image is sound, and the extent at a start is loose: a large one that no root names, or a slab in which no root's block lies.
pub record IsDroppable (words : List ℕ) (start : ℕ) : Type 0 where
  pub image : IsGcSoundImage words
  pub loose : IsLooseLarge (gc_tables words) start ⊎ IsEmptySlab (gc_tables words) start

-- what is left

-- a slab of the class is there, in which no root's block lies; the blocks and the other slabs are the same
pub record IsSlabCreated (words : List ℕ) (start class : ℕ) (new : List ℕ) : Type 0 where
  pub image : IsGcExactButImage new start
  pub bounds : bounds_of new ≡ bounds_of words
  pub heap : HaveSameGcHeap words new
  pub slabs : (other : ℕ) → gc_slabs new other ≡ with_key (gc_slabs words) start (Some class) other

-- a large extent of so many granules is there, which no root names; the blocks and the slabs are the same
pub record IsLargeCreated (words : List ℕ) (start granules : ℕ) (new : List ℕ) : Type 0 where
  pub image : IsGcExactButImage new start
  pub bounds : bounds_of new ≡ bounds_of words
  pub heap : HaveSameGcHeap words new
  pub slabs : (other : ℕ) → gc_slabs new other ≡ gc_slabs words other
  pub size : (gc_tables new).large start ≡ granules

-- nothing comes to be loose: each extent that is loose now was so before
pub record LoosensNone (words new : List ℕ) : Type 0 where
  pub large : (start : ℕ) → IsLooseLarge (gc_tables new) start → IsLooseLarge (gc_tables words) start
  pub empty : (start : ℕ) → IsEmptySlab (gc_tables new) start → IsEmptySlab (gc_tables words) start

-- The extent is gone: no large one is there, and no slab. The image is sound, its header line says what it said, and the blocks and the
-- other slabs are the same. Nothing comes to be loose, and where nothing but the extent was, the image is exact.
pub record IsDropped (words : List ℕ) (start : ℕ) (new : List ℕ) : Type 0 where
  pub image : IsGcSoundImage new
  pub gone : (gc_tables new).large start ≡ 0
  pub header : word_at new fields_word ≡ word_at words fields_word
  pub heap : HaveSameGcHeap words new
  pub slabs : (other : ℕ) → gc_slabs new other ≡ with_key (gc_slabs words) start None other
  pub loose : LoosensNone words new
  pub exact : IsGcExactBut (bounds_of words) (gc_tables words) start → IsGcExactImage new
