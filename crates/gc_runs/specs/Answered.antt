-- What an arena of this variant did at a call, whichever it is.
use Rattle.std.specs.Prelude.{◌≡◌, ℕ, List}
use Rattle.pmem_lines.specs.Events.{CrashOnly}
use Rattle.pmem_lines.specs.Pmem.{words_of, began, appended}
use Rattle.heap_model.specs.declared.call.Call.{Call}
use Rattle.heap_model.specs.declared.call.Call.TheVariants.{Malloc, Free, Write, Read, Move}
use Rattle.heap_model.specs.declared.call.Reply.{Reply}
use Rattle.thread_cache.specs.Stacks.{stacks_of}
use Rattle.arena_core.specs.Call.{IsReady}
use Rattle.gc_check.specs.Image.{IsGcExactImage}
use Rattle.gc_check.specs.State.{IsEitherGcHeap}
use Rattle.gc_heap.specs.Arena.{GcState}
use Rattle.gc_heap.specs.Answered.{IsGcStepOf}
use Rattle.gc_heap.specs.Events.{gc_call_events}
use Rattle.gc_heap.specs.Payload.{IsEitherGcWords}

-- what a crash within a call leaves, from the old words to the new ones: of a Write each word old or new, and of every other call the
-- old heap or the new one
abbrev pub IsGcLeftBy : Call → List ℕ → List ℕ → List ℕ → Type 0
IsGcLeftBy (Write root index word) old new image = IsEitherGcWords old new image
IsGcLeftBy _ old new image = IsEitherGcHeap old new image

-- The arena began one call on its memory, and has exactly the events of the call. A crash within it leaves what one within such a call
-- leaves.
pub record HasGcBegun (old new : GcState) (call : Call) (reply : Reply) : Type 0 where
  pub device : new.device ≡ appended (began old.device) (gc_call_events (words_of old.device) call reply)
  pub crash : CrashOnly new.device.base new.device.events (IsGcLeftBy call (words_of old.device) (words_of new.device))

-- what an arena did, by the call: a Read leaves it as it was, and no block moves in this variant
abbrev pub HasGcDone : GcState → GcState → Call → Reply → Type 0
HasGcDone old new (Malloc root size) reply = HasGcBegun old new (Malloc root size) reply
HasGcDone old new (Free root) reply = HasGcBegun old new (Free root) reply
HasGcDone old new (Write root index word) reply = HasGcBegun old new (Write root index word) reply
HasGcDone old new (Read root index) reply = new ≡ old
HasGcDone old new (Move from to) reply = ⊥

-- From an exact image the arena answered a call of a seat: a step of the machine, with the stacks before it and behind it.
pub record HasGcAnswered (seat : ℕ) (old new : GcState) (call : Call) (reply : Reply) : Type 0 where
  pub step : IsGcStepOf seat (words_of old.device) (stacks_of old.stacks) (words_of new.device) (stacks_of new.stacks) call reply
  pub done : HasGcDone old new call reply
  pub was_exact : IsGcExactImage (words_of old.device)
  pub exact : IsGcExactImage (words_of new.device)
  pub ready : IsReady new.device
