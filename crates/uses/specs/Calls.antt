-- What the calls of a stack do. Each names the states that its memory went through, one behind each call of the arena, so
-- that no other was passed; and what a crash at any event of them leaves.
use Rattle.std.specs.Prelude.{◌≡◌, ◌⊎◌, ℕ, ◌<◌, List, [], ◌∷◌, ◌++◌, length, Result, Ok, Err}
use Rattle.pmem_lines.specs.Pmem.{PmemState, words_of}
use Rattle.heap_model.specs.declared.call.Call.TheVariants as calls
use Rattle.heap_model.specs.declared.call.Reply.TheVariants as replies
use Rattle.heap_model.specs.Machine.{Machine}
use Rattle.heap_model.specs.Choice.{HasNoSite}
use Rattle.heap_model.specs.Slabs.{view_of}
use Rattle.heap_check.specs.Image.{bounds_of}
use Rattle.heap_check.specs.State.{HasState}
use Rattle.arena_core.specs.Answered.{IsOneCall}
use Rattle.arena_core.specs.Events.{call_events, line_after}
use Rattle.arena_core.specs.Payload.{payload_events}
use Rattle.uses.specs.Stack.{stage, IsSteadyStack, StackState}
use Rattle.uses.specs.declared.refusal.PushRefusal.{PushRefusal}
use Rattle.uses.specs.declared.refusal.PushRefusal.TheVariants.{Full, NoSpace}
use Rattle.uses.specs.declared.refusal.PopRefusal.{PopRefusal}
use Rattle.uses.specs.declared.refusal.PopRefusal.TheVariants.{Empty}

-- crashes

-- a crash leaves a steady image that is the stack from before or the one from behind
abbrev pub IsEitherStack : List (List ℕ) → List (List ℕ) → List ℕ → Type 0
IsEitherStack before behind image = IsSteadyStack before image ⊎ IsSteadyStack behind image

-- push

-- the machine has no place for a block of 64 bytes, in any state that the words have
abbrev pub HasNoPlace : List ℕ → Type 0
HasNoPlace words = (m : Machine) → HasState words m → HasNoSite (view_of (bounds_of words) m) 64

-- A record was pushed: the stage takes a block, its words are written there, and it moves to the root behind the last
-- record. Of these three calls the last one alone has a crash that may leave the new stack.
pub record HasPushed (old new : StackState) (contents : List ℕ) : Type 0 where
  pub room : length old.records < stage
  pub place : ¬ (HasNoPlace (words_of old.arena.device))
  pub records : new.records ≡ old.records ++ contents ∷ []
  -- the block's place
  pub at : ℕ
  -- behind the first call and behind the second
  pub taken : PmemState
  pub filled : PmemState
  pub take : IsOneCall old.arena.device taken (call_events (words_of old.arena.device) old.arena.line (calls.Malloc stage 64) (replies.Placed at 64)) (IsSteadyStack old.records)
  pub fill : IsOneCall taken filled (payload_events (words_of taken) stage 0 contents replies.Wrote) (IsSteadyStack old.records)
  pub show : IsOneCall filled new.arena.device (call_events (words_of filled) (line_after old.arena.line (replies.Placed at 64)) (calls.Move stage (length old.records)) (replies.Moved at 64)) (IsEitherStack old.records new.records)

-- It was not, for want of a place: the arena was asked, and did nothing.
pub record IsRefused (old new : StackState) : Type 0 where
  pub room : length old.records < stage
  pub no_place : HasNoPlace (words_of old.arena.device)
  pub records : new.records ≡ old.records
  pub call : IsOneCall old.arena.device new.arena.device [] (IsSteadyStack old.records)

-- by the answer: a full stack is as it was
abbrev pub IsPushedBy : StackState → StackState → List ℕ → Result (Unit {0}) PushRefusal → Type 0
IsPushedBy old new contents (Ok done) = HasPushed old new contents
IsPushedBy old new contents (Err Full) = (length old.records ≡ stage) × (new ≡ old)
IsPushedBy old new contents (Err NoSpace) = IsRefused old new

-- pop

-- the last record went, with its block
pub record HasPopped (old new : StackState) : Type 0 where
  pub last : List ℕ
  pub records : old.records ≡ new.records ++ last ∷ []
  pub at : ℕ
  pub call : IsOneCall old.arena.device new.arena.device (call_events (words_of old.arena.device) old.arena.line (calls.Free (length new.records)) (replies.Freed at 64)) (IsEitherStack old.records new.records)

-- by the answer: a stack with no record is as it was
abbrev pub IsPoppedBy : StackState → StackState → Result (Unit {0}) PopRefusal → Type 0
IsPoppedBy old new (Ok done) = HasPopped old new
IsPoppedBy old new (Err Empty) = (old.records ≡ []) × (new ≡ old)

-- top

-- the last record, where there is one
pub record IsLast (records : List (List ℕ)) (contents : List ℕ) : Type 0 where
  pub others : List (List ℕ)
  pub is : records ≡ others ++ contents ∷ []
