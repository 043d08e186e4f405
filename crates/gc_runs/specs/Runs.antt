-- The calls of an arena of this variant, one after another: the words at each call's begin, and its events.
use Rattle.std.specs.Prelude.{◌≡◌, ℕ, List, [], ◌∷◌}
use Rattle.pool_layout.specs.declared.header.PoolHeader.{PoolHeader}
use Rattle.heap_model.specs.declared.call.Reply.{Reply}
use Rattle.heap_model.specs.Machine.{Bounds, no_heap}
use Rattle.heap_model.specs.Placement.{PlacedState, bare, IsPlacedStep}
use Rattle.trace_text.specs.declared.call.TraceCall.{TraceCall}
use Rattle.trace_runs.specs.Arenas.{bounds_for}
use Rattle.trace_runs.specs.Runs.{Stage, words_after}
use Rattle.gc_check.specs.State.{HasGcState}
use Rattle.gc_heap.specs.Events.{gc_call_events}
use Rattle.gc_runs.specs.Arenas.{gc_formatted}

-- from these words and this state with its stacks on, a call makes this stage: the reply is the placement's; the events are those of
-- the reply, and behind it come words with the state that the machine leads to
pub record IsGcStage (b : Bounds) (words : List ℕ) (s : PlacedState) (call : TraceCall) (stage : Stage) (next : PlacedState) : Type 0 where
  pub reply : Reply
  pub begins : stage.words ≡ words
  pub events : stage.events ≡ gc_call_events words call.call reply
  pub step : IsPlacedStep b call.thread s call.call reply next
  pub state : HasGcState (words_after stage) next.machine

-- from these words and this state on, calls make these stages, one after another
abbrev pub IsGcRun : Bounds → List ℕ → PlacedState → List TraceCall → List Stage → Type 0
IsGcRun b words s [] stages = stages ≡ []
IsGcRun b words s (call ∷ calls) [] = ⊥
IsGcRun b words s (call ∷ calls) (stage ∷ stages) = (next : PlacedState) × IsGcStage b words s call stage next × IsGcRun b (words_after stage) next calls stages

-- the calls make these stages, in an arena that was formatted with this header: it has no block, and no stack has one
abbrev pub IsGcRunOf : PoolHeader → List TraceCall → List Stage → Type 0
IsGcRunOf header calls stages = IsGcRun (bounds_for header) (gc_formatted header) (bare no_heap) calls stages
