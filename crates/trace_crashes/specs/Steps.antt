-- Arenas of either variant, by the steps that they take.
use Rattle.std.specs.Prelude.{◌≡◌, List, [], ◌∷◌}
use Rattle.pmem_lines.specs.Pmem.{words_of}
use Rattle.heap_model.specs.declared.call.Reply.{Reply}
use Rattle.arena_core.specs.Arena.{ArenaState}
use Rattle.arena_core.specs.Events.{call_events}
use Rattle.arena_journal.specs.Journals.{HasAnswered}
use Rattle.trace_text.specs.declared.call.TraceCall.{TraceCall}
use Rattle.trace_runs.specs.Runs.{Stage}
use Rattle.trace_crashes.specs.Crash.{Runs}

-- an arena makes a stage at a call, and is another one then
abbrev pub Step : Type 0 → Type 1
Step A = A → TraceCall → Stage → A → Type 0

-- a step for each call, one after another
abbrev pub Steps : (A : Type 0) → Step A → A → List TraceCall → List Stage → A → Type 0
Steps A step first [] stages last = (stages ≡ []) × (last ≡ first)
Steps A step first (call ∷ calls) [] last = ⊥
Steps A step first (call ∷ calls) (stage ∷ stages) last = (next : A) × step first call stage next × Steps A step next calls stages last

-- what calls make from an arena on that is such a one
abbrev pub runs_from : (A : Type 0) → Step A → (A → Type 0) → Runs
runs_from A step IsFirst calls stages = (first : A) × (last : A) × IsFirst first × Steps A step first calls stages last

-- an arena of the LOG variant answered a call, which has these events
pub record IsStepAt (old : ArenaState) (call : TraceCall) (stage : Stage) (new : ArenaState) : Type 0 where
  pub reply : Reply
  pub answered : HasAnswered call.thread old new call.call reply
  pub is : stage ≡ record { words = words_of old.device; events = call_events (words_of old.device) old.line call.call reply }
