-- What the calls of an arena answer and leave that begin one on its memory: what they have in common is one record, and of
-- each kind of call all is one.
use Rattle.std.specs.Prelude.{◌≡◌, ℕ, List, Result}
use Rattle.pmem_lines.specs.declared.event.Event.{Event}
use Rattle.pmem_lines.specs.Events.{CrashOnly}
use Rattle.pmem_lines.specs.Pmem.{PmemState, words_of, began, appended}
use Rattle.heap_model.specs.declared.call.Call.{Call}
use Rattle.heap_model.specs.declared.call.Call.TheVariants as calls
use Rattle.heap_model.specs.declared.call.Reply.{Reply}
use Rattle.thread_cache.specs.Stacks.{stacks_of}
use Rattle.heap_check.specs.Image.{IsExactImage}
use Rattle.heap_check.specs.State.{KeepsBlocks, IsEitherHeap}
use Rattle.move_steps.specs.Moves.{IsEitherMoved}
use Rattle.arena_core.specs.declared.answer.BlockRefusal.{BlockRefusal}
use Rattle.arena_core.specs.Answer.{write_reply}
use Rattle.arena_core.specs.Arena.{ArenaState}
use Rattle.arena_core.specs.Call.{IsReady, IsStepOf, IsStepOfAny}
use Rattle.arena_core.specs.Events.{call_events, line_after}
use Rattle.arena_core.specs.Payload.{payload_events, IsWriteStep, IsWrittenBy, IsEitherWords}

-- One call began on the memory and has exactly these events. The image was exact and is so again, the memory may begin the
-- next call, and a crash at any event of this one leaves such images.
pub record IsOneCall (old new : PmemState) (events : List Event) (Left : List ℕ → Type 0) : Type 0 where
  pub device : new ≡ appended (began old) events
  pub was_exact : IsExactImage (words_of old)
  pub exact : IsExactImage (words_of new)
  pub ready : IsReady new
  pub crash : CrashOnly new.base new.events Left

-- A malloc or a free of a seat was answered: a step of the machine and its placement. Every block that stays has its words,
-- and a crash leaves the heap from before or the one from after.
pub record IsAnswered (seat : ℕ) (old new : ArenaState) (call : Call) (reply : Reply) : Type 0 where
  pub did : IsOneCall old.device new.device (call_events (words_of old.device) old.line call reply) (IsEitherHeap (words_of old.device) (words_of new.device))
  pub step : IsStepOf seat (words_of old.device) (stacks_of old.stacks) (words_of new.device) (stacks_of new.stacks) call reply
  pub line : new.line ≡ line_after old.line reply
  pub keeps : KeepsBlocks (words_of old.device) (words_of new.device)

-- A move was answered: a step for whichever seat and stacks. Every block has its words, also the one that moved, and a crash
-- leaves it with the one root or with the other.
pub record IsMoveAnswered (old new : ArenaState) (from to : ℕ) (reply : Reply) : Type 0 where
  pub did : IsOneCall old.device new.device (call_events (words_of old.device) old.line (calls.Move from to) reply) (IsEitherMoved (words_of old.device) (words_of new.device) to)
  pub step : IsStepOfAny (words_of old.device) (words_of new.device) (calls.Move from to) reply
  pub line : new.line ≡ line_after old.line reply
  pub stacks : new.stacks ≡ old.stacks
  pub keeps : KeepsBlocks (words_of old.device) (words_of new.device)

-- A write of words into a root's block from an index on was answered. All other words are as before, and a crash leaves each
-- of the written ones old or new.
pub record IsWriteAnswered (old new : ArenaState) (root from : ℕ) (words : List ℕ) (result : Result (Unit {0}) BlockRefusal) : Type 0 where
  pub did : IsOneCall old.device new.device (payload_events (words_of old.device) root from words (write_reply result)) (IsEitherWords (words_of old.device) (words_of new.device))
  pub step : IsWriteStep (words_of old.device) (words_of new.device) root from words (write_reply result)
  pub line : new.line ≡ old.line
  pub stacks : new.stacks ≡ old.stacks
  pub written : IsWrittenBy (words_of old.device) root from words (words_of new.device) result
