-- A part of recovery: what it stores, what a crash within it leaves, and what it leaves; and parts one after another.
use Rattle.std.specs.Prelude.{◌≡◌, ℕ, ◌≤◌, List, ◌++◌, length, Some, None}
use Rattle.pmem_lines.specs.Words.{word_at}
use Rattle.pmem_lines.specs.declared.event.Event.{Event}
use Rattle.pmem_lines.specs.Pmem.{PmemState, words_of, HasRoom}
use Rattle.pmem_lines.specs.Events.{reading, IsQuiet}
use Rattle.pmem_lines.specs.Steps.{IsQuietStep}
use Rattle.pool_layout.specs.Places.{fields_word}
use Rattle.image_tables.specs.Tables.{Tables, tables_of}
use Rattle.book_log.specs.Book.{Book}
use Rattle.heap_check.specs.Heap.{slabs}
use Rattle.heap_check.specs.Sound.{LoosensNothing, IsMorphing}
use Rattle.heap_check.specs.Image.{IsSteadyImage}
use Rattle.image_defects.specs.Least.{HasNone}
use Rattle.log_steps.specs.Log.{IsBookOf}
use Rattle.settle_steps.specs.Settled.{KeepsHeap}
use Rattle.recovery_steps.specs.Names.{Names, AreNames}

-- when

-- a part may begin: the image is of a kind, the log is that of its words, nothing is under way, and there is room for so
-- many events
pub record PartMayBegin (Is : List ℕ → Type 0) (log : Book) (s : PmemState) (most : ℕ) : Type 0 where
  pub image : Is (words_of s)
  pub book : IsBookOf log (words_of s)
  pub quiet : IsQuiet s.events
  pub room : HasRoom s most

-- events

-- Some events, so many at most, that stand in this relation to the words before them. What a crash within them leaves stands
-- in another: mostly that it keeps the heap (`KeepsHeap`).
pub record IsPart (Leaves : List ℕ → List ℕ → Type 0) (old new : PmemState) (Stores : List ℕ → List Event → Type 0) (most : ℕ) : Type 0 where
  pub events : List Event
  pub stores : Stores (words_of old) events
  pub few : length events ≤ most
  pub step : IsQuietStep old new events (Leaves (words_of old))

-- the events of one part, and then those of another, which go by the words that the first leaves
pub record Then (First Second : List ℕ → List Event → Type 0) (words : List ℕ) (events : List Event) : Type 0 where
  pub front : List Event
  pub back : List Event
  pub is : events ≡ front ++ back
  pub first : First words front
  pub second : Second (reading words front) back

-- what is left

-- the image is steady, and no entry is open
pub record IsShut (words : List ℕ) : Type 0 where
  pub image : IsSteadyImage words
  pub closed : (tables_of words).open_entry ≡ None

-- and these are the names of its roots
pub record IsShutWith (names : Names) (words : List ℕ) : Type 0 where
  pub shut : IsShut words
  pub are : AreNames names words

-- each live slab was one of the same class, and none comes to be in Morphing
pub record KeepsClasses (t new : Tables) : Type 0 where
  pub classes : (start class : ℕ) → slabs new start ≡ Some class → slabs t start ≡ Some class
  pub morphing : (start : ℕ) → IsMorphing new start → IsMorphing t start

-- such an image, of which the header line says what it said, and in which each root holds what it held
pub record IsLeft (words new : List ℕ) : Type 0 where
  pub shut : IsShut new
  pub header : word_at new fields_word ≡ word_at words fields_word
  pub roots : (tables_of new).root ≡ (tables_of words).root
  pub slabs : KeepsClasses (tables_of words) (tables_of new)

-- The image is steady with the same heap, in which each block has its words; its header line says what it said, and each root holds
-- what it held.
pub record IsSteadied (words new : List ℕ) : Type 0 where
  pub keeps : KeepsHeap words new
  pub header : word_at new fields_word ≡ word_at words fields_word
  pub roots : (tables_of new).root ≡ (tables_of words).root
  pub slabs : KeepsClasses (tables_of words) (tables_of new)

-- no slab is in Morphing any more
pub record LeavesNoneMorphing (words new : List ℕ) : Type 0 where
  pub left : IsLeft words new
  pub none : HasNone (IsMorphing (tables_of new))

-- nothing is loose any more in this way, and nothing comes to be loose
pub record Rids (IsLoose : Tables → ℕ → Type 0) (words new : List ℕ) : Type 0 where
  pub left : IsLeft words new
  pub loose : LoosensNothing (tables_of words) (tables_of new)
  pub none : HasNone (IsLoose (tables_of new))

-- A part of recovery is done: its events, what it leaves of the words, and the log, which is that of the new words.
pub record Does (log : Book) (Leaves Left : List ℕ → List ℕ → Type 0) (old new : PmemState) (Stores : List ℕ → List Event → Type 0) (most : ℕ) : Type 0 where
  pub part : IsPart Leaves old new Stores most
  pub left : Left (words_of old) (words_of new)
  pub book : IsBookOf log (words_of new)
