-- For the functions that make a dictionary's one call of the arena: what the arena answered.
use Rattle.std.specs.Prelude.{◌≡◌, ℕ, ◌/◌, ◌≤◌, List, Some, Result, Ok, Err}
use Rattle.pmem_lines.specs.Pmem.{words_of}
use Rattle.image_tables.specs.Tables.{tables_of}
use Rattle.heap_model.specs.Machine.{Range}
use Rattle.heap_model.specs.declared.call.Call.TheVariants as calls
use Rattle.heap_model.specs.declared.call.Reply.TheVariants as replies
use Rattle.heap_check.specs.Heap.{heap}
use Rattle.arena_core.specs.Arena.{ArenaState}
use Rattle.arena_core.specs.Answered.{IsAnswered, IsMoveAnswered, IsWriteAnswered}
use Rattle.attach_dict.specs.declared.refusal.StageRefusal.{StageRefusal}
use Rattle.attach_dict.specs.declared.refusal.StageRefusal.TheVariants.{Full, NumbersSpent, NoSpace}
use Rattle.attach_dict.specs.Dict.{stage, bytes_for}

-- the stage was given a block for a value of so many words
pub record IsTaken (old new : ArenaState) (count : ℕ) : Type 0 where
  pub at : ℕ
  pub size : ℕ
  pub did : IsAnswered 0 old new (calls.Malloc stage (bytes_for count)) (replies.Placed at size)

-- by the answer: where there was no place the arena refused
abbrev pub IsTakenBy : ArenaState → ArenaState → ℕ → Result (Unit {0}) StageRefusal → Type 0
IsTakenBy old new count (Ok done) = IsTaken old new count
IsTakenBy old new count (Err Full) = ⊥
IsTakenBy old new count (Err NumbersSpent) = ⊥
IsTakenBy old new count (Err NoSpace) = IsAnswered 0 old new (calls.Malloc stage (bytes_for count)) replies.NoSpace

-- the stage has a block of so many words at least
pub record HasRoomFor (words : List ℕ) (count : ℕ) : Type 0 where
  pub range : Range
  pub named : heap (tables_of words) stage ≡ Some range
  pub wide : count ≤ range.size / 8

-- its block begins with these words
abbrev pub IsFilled : ArenaState → ArenaState → List ℕ → Type 0
IsFilled old new words = IsWriteAnswered old new stage 0 words (Ok tt)

-- its block came to a root
pub record IsShown (old new : ArenaState) (root : ℕ) : Type 0 where
  pub range : Range
  pub named : heap (tables_of (words_of old.device)) stage ≡ Some range
  pub did : IsMoveAnswered old new stage root (replies.Moved range.at range.size)

-- a root's block went
pub record IsFreed (old new : ArenaState) (root : ℕ) : Type 0 where
  pub range : Range
  pub named : heap (tables_of (words_of old.device)) root ≡ Some range
  pub did : IsAnswered 0 old new (calls.Free root) (replies.Freed range.at range.size)
