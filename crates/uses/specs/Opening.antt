-- A stack over an arena whose heap is one.
use Rattle.std.specs.Prelude.{◌≡◌, ◌⊎◌, ℕ, List}
use Rattle.pmem_lines.specs.Pmem.{PmemState, words_of}
use Rattle.heap_model.specs.declared.call.Call.TheVariants as calls
use Rattle.heap_model.specs.declared.call.Reply.TheVariants as replies
use Rattle.arena_core.specs.Arena.{ArenaState}
use Rattle.arena_core.specs.Events.{call_events}
use Rattle.uses.specs.Stack.{stage, HasNone, IsStack, IsSteadyStack, StackState}
use Rattle.arena_core.specs.Answered.{IsOneCall}

-- the block on the stage went, in one call of the arena, which leaves the stack
pub record IsCleared (records : List (List ℕ)) (old : ArenaState) (new : PmemState) : Type 0 where
  pub at : ℕ
  pub size : ℕ
  pub call : IsOneCall old.device new (call_events (words_of old.device) old.line (calls.Free stage) (replies.Freed at size)) (IsSteadyStack records)

-- A stack over an arena has the records that the arena's image is the stack of. Nothing was done where the stage was empty;
-- else its block went.
pub record IsOpened (old : ArenaState) (new : StackState) : Type 0 where
  pub records : IsStack (words_of old.device) new.records
  pub done : (HasNone (words_of old.device) stage × (new.arena ≡ old)) ⊎ IsCleared new.records old new.arena.device
