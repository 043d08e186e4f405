-- A device that was recovered, and what recovery reads of its words before.
use Rattle.std.specs.Prelude.{◌≡◌, ◌≤◌, List, ℕ, length}
use Rattle.pmem_lines.specs.Pmem.{PmemState, words_of, began, appended}
use Rattle.pmem_lines.specs.Events.{IsQuiet, CrashOnly}
use Rattle.pmem_lines.specs.Words.{word_at}
use Rattle.pool_layout.specs.declared.header.PoolHeader.{PoolHeader}
use Rattle.pool_layout.specs.Layout.{layout_of}
use Rattle.pool_layout.specs.Places.{fields_word}
use Rattle.pool_layout.specs.Header.{version_in, granules_in, IsHeader}
use Rattle.image_tables.specs.Tables.{tables_of}
use Rattle.heap_check.specs.Image.{IsExactImage, IsSteadyImage}
use Rattle.heap_check.specs.State.{HaveSameHeap, KeepsBlocks}
use Rattle.log_steps.specs.Log.{IsBookOf}
use Rattle.settle_steps.specs.Settled.{KeepsHeap}
use Rattle.recovery_steps.specs.Names.{AreNames}
use Rattle.recovery_steps.specs.Parts.{KeepsClasses}
use Rattle.recovery_steps.specs.Recovery.{Recovers, RecoversSound}
use Rattle.recover.specs.declared.preparing.Prepared.{Prepared}

-- where the header line of its words is good, the device has the room of the version that this says
abbrev pub HasVersionRoom : PmemState → Type 0
HasVersionRoom device = (header : PoolHeader) → IsHeader (words_of device) header → (layout_of header.version).room ≤ device.room

-- the log and the names are those of an arena of these words, and the memory is for one of its size
pub record IsPrepared (words : List ℕ) (prepared : Prepared) : Type 0 where
  pub book : IsBookOf prepared.log words
  pub names : AreNames prepared.names words
  pub space : prepared.space ≡ granules_in words

-- The device is quiet, and its image is exact with the heap of these words, in which each block has the words that it has in
-- them.
pub record IsExactOf (words : List ℕ) (device : PmemState) : Type 0 where
  pub quiet : IsQuiet device.events
  pub exact : IsExactImage (words_of device)
  pub heap : HaveSameHeap words (words_of device)
  pub blocks : KeepsBlocks words (words_of device)

-- One call began on the device, and its events are those of recovery. Its image is the exact one of the words that it had, and its
-- header line says what it said: so it is an arena of the same version with as many granules. Each live slab was one of the same class.
pub record IsRecovered (old new : PmemState) : Type 0 where
  pub state : new ≡ appended (began old) new.events
  pub image : IsExactOf (words_of old) new
  pub header : word_at (words_of new) fields_word ≡ word_at (words_of old) fields_word
  pub slabs : KeepsClasses (tables_of (words_of old)) (tables_of (words_of new))
  -- what is stored
  pub stores : RecoversSound (words_of old) new.events
  pub few : length new.events ≤ (layout_of (version_in (words_of old))).recovery_events
  -- from a steady image
  pub steady_stores : IsSteadyImage (words_of old) → Recovers (words_of old) new.events
  pub crash : IsSteadyImage (words_of old) → CrashOnly (words_of old) new.events (KeepsHeap (words_of old))

-- A recovered device of these words: one call began on it, over just these words, and its image is the exact one of them.
pub record IsRecoveredDevice (words : List ℕ) (device : PmemState) : Type 0 where
  pub base : device.base ≡ words
  pub begins : device.begins ≡ 1
  pub image : IsExactOf words device
