-- What answers a trace that threads carry out.
use Rattle.std.specs.Prelude.{◌≡◌, ◌≤◌, ℕ, suc, ◌==◌, ◌&&◌, if◌then◌else◌, List, [], ◌∷◌, map, length}
use Rattle.heap_model.specs.declared.call.Call.{Call}
use Rattle.heap_model.specs.declared.call.Entry.{Entry}
use Rattle.arena_core.specs.Arena.{ArenaState}
use Rattle.arena_lock.specs.declared.opening.Opening.{Opening}
use Rattle.arena_lock.specs.Journal.{calls_by}
use Rattle.arena_journal.specs.Journals.{IsBehind}
use Rattle.trace_text.specs.declared.call.TraceCall.{TraceCall}

-- the entries of an arena of this number, with the seats by which its blocks were placed
abbrev pub Seats : Type 0
Seats = ℕ → List Entry → List Entry

-- each thread made its calls itself: an entry's seat is its thread
abbrev pub by_threads : Seats
by_threads arena es = es

-- the arena's owner made all calls: each was placed by the seat of the arena's number
abbrev pub by_owner : Seats
by_owner arena es = map (λ (e : Entry). record e { seat = arena }) es

-- what a thread asks of an arena, in order
abbrev pub asked : ℕ → ℕ → List TraceCall → List Call
asked thread arena [] = []
asked thread arena (c ∷ cs) = if (c.thread == thread) && (c.arena == arena) then c.call ∷ asked thread arena cs else asked thread arena cs

-- what was asked, entry by entry
abbrev pub calls_in : List Entry → List Call
calls_in es = map (λ e. e.call) es

-- The journal, by these seats, leads from the opening to the arena at the end. Of every thread it has just the calls that the
-- thread asks of the arena, in order, each once; so it has nothing else, and no more entries than there are calls.
pub record AnswersThreads (seats : Seats) (calls : List TraceCall) (arena : ℕ) (opening : Opening) (closed : List Entry × ArenaState) : Type 0 where
  pub behind : IsBehind opening (seats arena closed.0) closed.1
  pub threads : (thread : ℕ) → calls_in (calls_by thread closed.0) ≡ asked thread arena calls
  pub few : length closed.0 ≤ length calls

-- the same of each arena, from this number on
abbrev pub AllAnswer : Seats → List TraceCall → ℕ → List Opening → List (List Entry × ArenaState) → Type 0
AllAnswer seats calls a [] [] = Unit {0}
AllAnswer seats calls a [] (c ∷ cs) = ⊥
AllAnswer seats calls a (o ∷ os) [] = ⊥
AllAnswer seats calls a (o ∷ os) (c ∷ cs) = AnswersThreads seats calls a o c × AllAnswer seats calls (suc a) os cs
