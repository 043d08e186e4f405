-- For the functions that carry out a call of a stack: what each call of the arena leaves of the heap.
use Rattle.std.specs.Prelude.{◌≡◌, ◌≢◌, ◌⊎◌, ℕ, ◌<◌, ◌≤◌, List, [], Some, Result, Ok, Err}
use Rattle.pmem_lines.specs.Pmem.{PmemState, words_of}
use Rattle.image_tables.specs.Tables.{tables_of}
use Rattle.heap_model.specs.declared.call.Call.TheVariants as calls
use Rattle.heap_model.specs.declared.call.Reply.TheVariants as replies
use Rattle.heap_model.specs.Machine.{Range}
use Rattle.heap_check.specs.Heap.{heap}
use Rattle.heap_check.specs.Image.{IsExactImage}
use Rattle.heap_check.specs.State.{KeepsBlocks, IsEitherHeap}
use Rattle.move_steps.specs.Moves.{MovesOne, IsEitherMoved}
use Rattle.arena_core.specs.Answered.{IsOneCall}
use Rattle.arena_core.specs.Arena.{ArenaState}
use Rattle.arena_core.specs.Call.{IsReady}
use Rattle.arena_core.specs.Events.{call_events, line_after}
use Rattle.arena_core.specs.Payload.{payload_events, HasWritten, IsEitherWords}
use Rattle.uses.specs.Stack.{stage, HasNone}
use Rattle.uses.specs.Calls.{HasNoPlace}
use Rattle.uses.specs.declared.refusal.PushRefusal.{PushRefusal}
use Rattle.uses.specs.declared.refusal.PushRefusal.TheVariants.{Full, NoSpace}

-- a root names a block of 64 bytes
pub record HasRecordBlock (words : List ℕ) (root : ℕ) : Type 0 where
  pub range : Range
  pub named : heap (tables_of words) root ≡ Some range
  pub size : range.size ≡ 64

-- a root names a block
pub record HasSome (words : List ℕ) (root : ℕ) : Type 0 where
  pub range : Range
  pub named : heap (tables_of words) root ≡ Some range

-- the memory may begin a call, and its image is exact
pub record IsWhole (device : PmemState) : Type 0 where
  pub ready : IsReady device
  pub exact : IsExactImage (words_of device)

-- every root but one names the block that it named, and every block has its words
pub record KeepsBut (old new : List ℕ) (root : ℕ) : Type 0 where
  pub others : (other : ℕ) → other ≢ root → heap (tables_of new) other ≡ heap (tables_of old) other
  pub words : KeepsBlocks old new

-- the stage took a block
pub record IsTaken (old new : ArenaState) : Type 0 where
  pub at : ℕ
  pub call : IsOneCall old.device new.device (call_events (words_of old.device) old.line (calls.Malloc stage 64) (replies.Placed at 64)) (IsEitherHeap (words_of old.device) (words_of new.device))
  pub line : new.line ≡ line_after old.line (replies.Placed at 64)
  pub here : heap (tables_of (words_of new.device)) stage ≡ Some (record { at = at; size = 64 })
  pub keeps : KeepsBut (words_of old.device) (words_of new.device) stage
  pub place : ¬ (HasNoPlace (words_of old.device))

-- it took none, and the memory has the words that it had
pub record IsUntaken (old new : ArenaState) : Type 0 where
  pub call : IsOneCall old.device new.device [] (IsEitherHeap (words_of old.device) (words_of new.device))
  pub no_place : HasNoPlace (words_of old.device)

abbrev pub IsTakenBy : ArenaState → ArenaState → Result (Unit {0}) PushRefusal → Type 0
IsTakenBy old new (Ok done) = IsTaken old new
IsTakenBy old new (Err Full) = ⊥
IsTakenBy old new (Err NoSpace) = IsUntaken old new

-- the block of the stage has these words
pub record IsFilled (old new : ArenaState) (contents : List ℕ) : Type 0 where
  pub call : IsOneCall old.device new.device (payload_events (words_of old.device) stage 0 contents replies.Wrote) (IsEitherWords (words_of old.device) (words_of new.device))
  pub line : new.line ≡ old.line
  pub written : HasWritten (words_of old.device) stage 0 contents (words_of new.device)

-- the block of the stage, of 64 bytes, came to a root
pub record IsShown (old new : ArenaState) (root : ℕ) : Type 0 where
  pub at : ℕ
  pub named : heap (tables_of (words_of old.device)) stage ≡ Some (record { at = at; size = 64 })
  pub call : IsOneCall old.device new.device (call_events (words_of old.device) old.line (calls.Move stage root) (replies.Moved at 64)) (IsEitherMoved (words_of old.device) (words_of new.device) root)
  pub moves : MovesOne (words_of old.device) stage root (words_of new.device)
  pub words : KeepsBlocks (words_of old.device) (words_of new.device)

-- the block of a root went
pub record IsReleased (old new : ArenaState) (root : ℕ) : Type 0 where
  pub range : Range
  pub named : heap (tables_of (words_of old.device)) root ≡ Some range
  pub call : IsOneCall old.device new.device (call_events (words_of old.device) old.line (calls.Free root) (replies.Freed range.at range.size)) (IsEitherHeap (words_of old.device) (words_of new.device))
  pub gone : HasNone (words_of new.device) root
  pub keeps : KeepsBut (words_of old.device) (words_of new.device) root

-- the stage names no block any more: it named none, and nothing was done, or its block went
abbrev pub IsTidied : ArenaState → ArenaState → Type 0
IsTidied old new = (HasNone (words_of old.device) stage × (new ≡ old) × IsWhole old.device) ⊎ IsReleased old new stage

-- counting

-- the first n roots name blocks of 64 bytes, and no more do
pub record AreLeading (words : List ℕ) (n : ℕ) : Type 0 where
  pub few : n ≤ stage
  pub each : (root : ℕ) → root < n → HasRecordBlock words root
  pub last : n < stage → ¬ (HasRecordBlock words n)

-- no root from one on, below the stage, names a block
pub record AreNone (words : List ℕ) (low : ℕ) : Type 0 where
  pub each : (root : ℕ) → low ≤ root → root < stage → HasNone words root
