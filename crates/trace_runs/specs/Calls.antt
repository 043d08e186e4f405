-- The calls of a trace that are one arena's, and what an arena made of them.
use Rattle.std.specs.Prelude.{◌≡◌, ◌==◌, ℕ, ◌<◌, List, [], ◌∷◌, if◌then◌else◌}
use Rattle.std.specs.List.{All}
use Rattle.heap_model.specs.declared.call.Entry.{Entry}
use Rattle.heap_model.specs.Journal.{IsOfBlock}
use Rattle.arena_core.specs.Arena.{ArenaState}
use Rattle.arena_journal.specs.Journals.{opened, IsBehind}
use Rattle.trace_text.specs.declared.call.PoolSize.{PoolSize}
use Rattle.trace_text.specs.declared.call.TraceCall.{TraceCall}
use Rattle.trace_text.specs.Grammar.{IsPool, IsTraceCall}

-- the calls of one arena, in the order of the lines
abbrev pub calls_of : ℕ → List TraceCall → List TraceCall
calls_of arena [] = []
calls_of arena (call ∷ calls) = if call.arena == arena then call ∷ calls_of arena calls else calls_of arena calls

-- a call that an arena may be asked: by one of 64 threads
abbrev pub CanBeMade : TraceCall → Type 0
CanBeMade call = call.thread < 64

-- calls of a trace of this pool, and one of its arenas
pub record IsArenaOf (pool : PoolSize) (calls : List TraceCall) (arena : ℕ) : Type 0 where
  pub sized : IsPool pool
  pub each : All (IsTraceCall pool.arenas) calls
  pub inside : arena < pool.arenas

-- a call that reads and writes no word
abbrev pub IsOfBlocks : TraceCall → Type 0
IsOfBlocks call = IsOfBlock call.call

-- the entries answer the calls, in order, each once, and nothing else
abbrev pub AreAnswers : List TraceCall → List Entry → Type 0
AreAnswers [] [] = Unit {0}
AreAnswers [] (entry ∷ entries) = ⊥
AreAnswers (call ∷ calls) [] = ⊥
AreAnswers (call ∷ calls) (entry ∷ entries) = (entry.seat ≡ call.thread) × (entry.call ≡ call.call) × AreAnswers calls entries

-- from one state of it to another an arena answered these calls
pub record HasMadeAll (first now : ArenaState) (calls : List TraceCall) : Type 0 where
  pub journal : List Entry
  pub answers : AreAnswers calls journal
  pub behind : IsBehind (opened first) journal now
