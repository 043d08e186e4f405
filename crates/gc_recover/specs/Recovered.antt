-- A device that was recovered.
use Rattle.std.specs.Prelude.{◌≡◌, ◌≤◌, ℕ, List, length}
use Rattle.pmem_lines.specs.Pmem.{PmemState, words_of, began, appended}
use Rattle.pmem_lines.specs.Events.{IsQuiet, CrashOnly}
use Rattle.pmem_lines.specs.Words.{word_at}
use Rattle.pool_layout.specs.Layout.{layout_of}
use Rattle.pool_layout.specs.Places.{fields_word}
use Rattle.pool_layout.specs.Header.{version_in, granules_in}
use Rattle.book_log.specs.Book.{Book}
use Rattle.log_steps.specs.Log.{IsBookOf}
use Rattle.gc_check.specs.Image.{IsGcExactImage}
use Rattle.gc_search.specs.Names.{Names, AreNamesOf}
use Rattle.gc_search.specs.Image.{IsSoundWith}
use Rattle.gc_recovery_steps.specs.Recovery.{KeepsGcHeap, KeepsGcSlabs, GcRecovers}
use Rattle.gc_recover.specs.declared.arena.Prepared.{Prepared}

-- One call began on the device, and its events are those of recovery. It is quiet, and its image is exact with the heap that it had,
-- in which each block has its words; its header line says what it said, and each live slab was one of the same class. A crash within
-- the events keeps the heap.
pub record IsGcRecovered (old new : PmemState) : Type 0 where
  pub state : new ≡ appended (began old) new.events
  pub quiet : IsQuiet new.events
  pub exact : IsGcExactImage (words_of new)
  pub keeps : KeepsGcHeap (words_of old) (words_of new)
  pub header : word_at (words_of new) fields_word ≡ word_at (words_of old) fields_word
  pub slabs : KeepsGcSlabs (words_of old) (words_of new)
  -- what is stored
  pub stores : GcRecovers (words_of old) new.events
  pub few : length new.events ≤ (layout_of (version_in (words_of old))).recovery_events
  pub crash : CrashOnly (words_of old) new.events (KeepsGcHeap (words_of old))

-- A recovered device of these words: one call began on it, over just these words. It is quiet, and its image is exact with the heap
-- of these words, in which each block has the words that it has in them.
pub record IsGcRecoveredDevice (words : List ℕ) (device : PmemState) : Type 0 where
  pub base : device.base ≡ words
  pub begins : device.begins ≡ 1
  pub quiet : IsQuiet device.events
  pub exact : IsGcExactImage (words_of device)
  pub keeps : KeepsGcHeap words (words_of device)

-- the image is sound, and so many granules has the memory for an arena of it
pub record IsPrepared (words : List ℕ) (prepared : Prepared) : Type 0 where
  pub image : IsSoundWith words prepared.image
  pub size : prepared.space ≡ granules_in words

-- the log and the names are those of the device
pub record IsRecoveredWith (log : Book) (names : Names) (old new : PmemState) : Type 0 where
  pub recovered : IsGcRecovered old new
  pub book : IsBookOf log (words_of new)
  pub marks : AreNamesOf (words_of new) names
