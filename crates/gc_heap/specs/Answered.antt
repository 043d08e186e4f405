-- What the calls of an arena answer and leave that begin one on its memory: what they have in common is one record, and of a malloc
-- and a free all is one.
use Rattle.std.specs.Prelude.{◌≡◌, ℕ, List}
use Rattle.pmem_lines.specs.declared.event.Event.{Event}
use Rattle.pmem_lines.specs.Events.{CrashOnly}
use Rattle.pmem_lines.specs.Pmem.{PmemState, words_of, began, appended}
use Rattle.heap_model.specs.declared.call.Call.{Call}
use Rattle.heap_model.specs.declared.call.Reply.{Reply}
use Rattle.heap_model.specs.Machine.{Machine}
use Rattle.heap_model.specs.Placement.{Stacks, IsPlacedStep}
use Rattle.thread_cache.specs.Stacks.{stacks_of}
use Rattle.heap_check.specs.Image.{bounds_of}
use Rattle.arena_core.specs.Call.{IsReady}
use Rattle.gc_check.specs.Image.{IsGcExactImage}
use Rattle.gc_check.specs.State.{HasGcState, KeepsGcBlocks, IsEitherGcHeap}
use Rattle.gc_heap.specs.Arena.{GcState}
use Rattle.gc_heap.specs.Events.{gc_call_events}

-- One call began on the memory and has exactly these events. The image was exact and is so again, the memory may begin the next
-- call, and a crash at any event of this one leaves such images.
pub record IsOneGcCall (old new : PmemState) (events : List Event) (Left : List ℕ → Type 0) : Type 0 where
  pub device : new ≡ appended (began old) events
  pub was_exact : IsGcExactImage (words_of old)
  pub exact : IsGcExactImage (words_of new)
  pub ready : IsReady new
  pub crash : CrashOnly new.base new.events Left

-- each state that the old words have leads, with the stacks before it, to one that the new words have, with the stacks behind it,
-- by a step of the placement for a seat
pub record IsGcStepOf (seat : ℕ) (old : List ℕ) (was : Stacks) (new : List ℕ) (after : Stacks) (call : Call) (reply : Reply) : Type 0 where
  pub bounds : bounds_of new ≡ bounds_of old
  pub each : (m : Machine) → HasGcState old m → (next : Machine) × IsPlacedStep (bounds_of old) seat (record { machine = m; stacks = was }) call reply (record { machine = next; stacks = after }) × HasGcState new next

-- A malloc or a free of a seat was answered: a step of the machine and its placement. Every block that stays has its words, and a
-- crash leaves the heap from before or the one from after.
pub record IsGcAnswered (seat : ℕ) (old new : GcState) (call : Call) (reply : Reply) : Type 0 where
  pub did : IsOneGcCall old.device new.device (gc_call_events (words_of old.device) call reply) (IsEitherGcHeap (words_of old.device) (words_of new.device))
  pub step : IsGcStepOf seat (words_of old.device) (stacks_of old.stacks) (words_of new.device) (stacks_of new.stacks) call reply
  pub keeps : KeepsGcBlocks (words_of old.device) (words_of new.device)
