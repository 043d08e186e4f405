-- What the repair of an arena of the GC variant makes of its words.
use Rattle.std.specs.Prelude.{◌≡◌, List, ℕ, length}
use Rattle.pmem_lines.specs.declared.event.Event.{Event}
use Rattle.pmem_lines.specs.Events.{reading}
use Rattle.heap_check.specs.Image.{header_in}
use Rattle.gc_check.specs.Image.{IsGcSoundImage, IsGcExactImage}
use Rattle.gc_check.specs.State.{HaveSameGcHeap, KeepsGcBlocks}
use Rattle.gc_recovery_steps.specs.Recovery.{KeepsGcSlabs, GcRecovers}

-- the new words are what the events of a recovery of the old ones make of these
pub record HasGcRecoveryOf (words new : List ℕ) : Type 0 where
  pub events : List Event
  pub stores : GcRecovers words events
  pub is : new ≡ reading words events

-- The words are sound, and the new ones are an exact image, as long and with the same header line, with the heap of the old ones, in
-- which each block has the words that it had. Exact words stay as they are.
pub record IsGcRepaired (words new : List ℕ) : Type 0 where
  pub sound : IsGcSoundImage words
  pub size : length new ≡ length words
  pub header : header_in new ≡ header_in words
  pub exact : IsGcExactImage new
  pub heap : HaveSameGcHeap words new
  pub blocks : KeepsGcBlocks words new
  pub slabs : KeepsGcSlabs words new
  -- what was stored
  pub recovery : HasGcRecoveryOf words new
  pub still : IsGcExactImage words → new ≡ words
