-- A block moves from a root to another: what that is as a step of the heap machine, what is decided before it, and what it
-- did behind its begin.
use Rattle.std.specs.Prelude.{◌≡◌, ◌≢◌, ◌⊎◌, ℕ, ◌<◌, ◌≤◌, List, Result, Ok, Err, Some, None}
use Rattle.pmem_lines.specs.Words.{word_at}
use Rattle.pmem_lines.specs.Pmem.{PmemState, words_of}
use Rattle.pmem_lines.specs.Steps.{IsQuietStep}
use Rattle.pool_layout.specs.Places.{fields_word}
use Rattle.image_tables.specs.Tables.{tables_of}
use Rattle.heap_model.specs.declared.call.Call.TheVariants as calls
use Rattle.heap_model.specs.declared.call.Reply.{Reply}
use Rattle.heap_model.specs.Machine.{Range, Machine}
use Rattle.heap_model.specs.Step.{IsMove}
use Rattle.heap_check.specs.Heap.{heap}
use Rattle.heap_check.specs.Image.{bounds_of}
use Rattle.heap_check.specs.State.{HasState, KeepsBlocks}
use Rattle.move_steps.specs.Moves.{IsEitherMoved}
use Rattle.arena_core.specs.declared.answer.Moved.{Moved}
use Rattle.arena_core.specs.declared.answer.MoveRefusal.{MoveRefusal}
use Rattle.arena_core.specs.declared.answer.MoveRefusal.TheVariants.{NoRoot, Empty, Occupied}
use Rattle.arena_core.specs.declared.volatile.Volatile.{Volatile}
use Rattle.arena_core.specs.Arena.{IsArena}
use Rattle.arena_core.specs.Events.{call_events, line_after}

-- the machine

-- each state that the old words have leads by such a move to one that the new words have, and the fields of the header are the same
pub record IsMoveStep (old new : List ℕ) (from to : ℕ) (reply : Reply) : Type 0 where
  pub header : word_at new fields_word ≡ word_at old fields_word
  pub each : (m : Machine) → HasState old m → (next : Machine) × IsMove (bounds_of old) m from to reply next × HasState new next

-- for the functions below

-- both are roots of the arena
pub record AreRoots (words : List ℕ) (from to : ℕ) : Type 0 where
  pub first : from < (bounds_of words).roots
  pub second : to < (bounds_of words).roots

-- the first root has this block, and the second has none
pub record IsToMove (words : List ℕ) (from to : ℕ) (range : Range) : Type 0 where
  pub roots : AreRoots words from to
  pub named : heap (tables_of words) from ≡ Some range
  pub place : (tables_of words).root from ≡ range.at
  pub none : (tables_of words).root to ≡ 0

-- both roots have a block, the second one at this address
pub record IsOccupied (words : List ℕ) (from to at : ℕ) : Type 0 where
  pub roots : AreRoots words from to
  pub range : Range
  pub named : heap (tables_of words) from ≡ Some range
  pub place : (tables_of words).root to ≡ at
  pub some : at ≢ 0

-- the block that moves, or why none does
abbrev pub IsMovePlan : List ℕ → ℕ → ℕ → Result Moved MoveRefusal → Type 0
IsMovePlan words from to (Ok moved) = IsToMove words from to (record { at = moved.at; size = moved.size })
IsMovePlan words from to (Err NoRoot) = ((bounds_of words).roots ≤ from) ⊎ ((bounds_of words).roots ≤ to)
IsMovePlan words from to (Err Empty) = AreRoots words from to × (heap (tables_of words) from ≡ None)
IsMovePlan words from to (Err (Occupied at)) = IsOccupied words from to at

-- what a move did behind its begin
pub record IsMoveCarried (old new : PmemState) (was left : Volatile) (from to : ℕ) (reply : Reply) : Type 0 where
  pub carried : IsQuietStep old new (call_events (words_of old) was.line (calls.Move from to) reply) (IsEitherMoved (words_of old) (words_of new) to)
  pub arena : IsArena new left
  pub line_is : left.line ≡ line_after was.line reply
  pub supply : left.supply ≡ was.supply
  pub step : IsMoveStep (words_of old) (words_of new) from to reply
  pub keeps : KeepsBlocks (words_of old) (words_of new)
