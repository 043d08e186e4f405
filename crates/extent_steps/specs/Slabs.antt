-- A slab is opened on vacant granules, or dropped where no root's block lies in it: the events, when it may be, and what it leaves.
use Rattle.std.specs.Prelude.{◌≡◌, ◌≢◌, ◌⊎◌, ℕ, ◌+◌, ◌*◌, ◌<◌, ◌≤◌, None, List, ◌++◌, length}
use Rattle.pmem_lines.specs.Words.{word_at}
use Rattle.pmem_lines.specs.declared.event.Event.{Event}
use Rattle.pmem_lines.specs.Events.{reading}
use Rattle.pool_layout.specs.Places.{directory_word, granule_word, log_start, heap_word}
use Rattle.pool_layout.specs.Header.{version_in}
use Rattle.image_tables.specs.Tables.{tables_of}
use Rattle.slab_header.specs.Steps.{make_events}
use Rattle.book_log.specs.declared.entry.LogEntry.TheVariants.{Slab, Tomb}
use Rattle.log_steps.specs.Events.{log_events}
use Rattle.heap_check.specs.Sound.{IsVacant, IsEmptySlab, LoosensNothing, IsExactBut}
use Rattle.heap_check.specs.Slabs.{IsSlabMore, IsWithSlab}
use Rattle.heap_check.specs.Image.{bounds_of, IsExactImage, IsExactButImage, IsSteadyImage}
use Rattle.heap_check.specs.State.{HaveSameHeap}

-- the slab is made, and then its extent goes into the log
abbrev pub open_events : List ℕ → ℕ → ℕ → List Event
open_events words start class = make_events (16384 * start) class ++ log_events (reading words (make_events (16384 * start) class)) (Slab start)

-- a Tomb for its extent goes into the log
abbrev pub drop_events : List ℕ → ℕ → List Event
drop_events words start = log_events words (Tomb start)

-- when

-- the image is exact, and the four granules from the start on are vacant
pub record MayBeCreated (words : List ℕ) (start : ℕ) : Type 0 where
  pub image : IsExactImage words
  pub vacant : (k : ℕ) → start ≤ k → k < start + 4 → IsVacant (bounds_of words) (tables_of words) k

-- the image is steady, no entry is open, and no root's block lies in the slab
pub record IsDroppable (words : List ℕ) (start : ℕ) : Type 0 where
  pub image : IsSteadyImage words
  pub closed : (tables_of words).open_entry ≡ None
  pub empty : IsEmptySlab (tables_of words) start

-- what is left

-- the words are the same, but for those of the log, its directory and the header at the start
pub record KeepsAllButSlab (words : List ℕ) (start : ℕ) (image : List ℕ) : Type 0 where
  pub same_length : length image ≡ length words
  pub others : (k : ℕ) → k ≢ directory_word → (k < log_start (version_in words)) ⊎ (heap_word (version_in words) ≤ k) → (k < granule_word start) ⊎ (granule_word start + 256 ≤ k) → word_at image k ≡ word_at words k

-- the slab is there, empty, and the heap is the same
pub record IsSlabCreated (words : List ℕ) (start class : ℕ) (new : List ℕ) : Type 0 where
  pub image : IsExactButImage new start
  pub bounds : bounds_of new ≡ bounds_of words
  pub slab : IsWithSlab (tables_of words) (tables_of new) start class
  pub heap : HaveSameHeap words new
  pub rest : KeepsAllButSlab words start new

-- The slab is gone, the image is steady and the heap the same; nothing comes to be loose, and where nothing but the slab
-- was, nothing is.
pub record IsDropped (words : List ℕ) (start : ℕ) (new : List ℕ) : Type 0 where
  pub image : IsSteadyImage new
  pub bounds : bounds_of new ≡ bounds_of words
  pub slab : IsSlabMore (tables_of new) (tables_of words) start
  pub heap : HaveSameHeap words new
  pub loose : LoosensNothing (tables_of words) (tables_of new)
  pub exact : IsExactBut (bounds_of words) (tables_of words) start → IsExactImage new
  pub rest : KeepsAllButSlab words start new
