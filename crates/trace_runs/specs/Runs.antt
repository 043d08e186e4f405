-- The calls of an arena, one after another: the words at each call's begin, and its events.
use Rattle.std.specs.Prelude.{◌≡◌, ℕ, ◌+◌, List, [], ◌∷◌, length}
use Rattle.pmem_lines.specs.declared.event.Event.{Event}
use Rattle.pmem_lines.specs.Events.{reading}
use Rattle.pool_layout.specs.declared.header.PoolHeader.{PoolHeader}
use Rattle.heap_model.specs.declared.call.Reply.{Reply}
use Rattle.heap_model.specs.Machine.{Bounds, no_heap}
use Rattle.heap_model.specs.Placement.{PlacedState, bare, IsPlacedStep}
use Rattle.heap_check.specs.State.{HasState}
use Rattle.arena_core.specs.Events.{call_events, line_after}
use Rattle.trace_text.specs.declared.call.TraceCall.{TraceCall}
use Rattle.trace_runs.specs.Arenas.{bounds_for, formatted}

-- a call of a run: the words at its begin, and its events
pub record Stage : Type 0 where
  pub words : List ℕ
  pub events : List Event

-- the words behind it
abbrev pub words_after : Stage → List ℕ
words_after stage = reading stage.words stage.events

-- from these words, this write-ahead line, and this state with its stacks on, a call makes this stage: the reply is the
-- placement's; the events are those of the reply, and behind it come the next line, and words with the state that the machine
-- leads to
pub record IsStage (b : Bounds) (words : List ℕ) (line : ℕ) (s : PlacedState) (call : TraceCall) (stage : Stage) (later : ℕ) (next : PlacedState) : Type 0 where
  pub reply : Reply
  pub begins : stage.words ≡ words
  pub events : stage.events ≡ call_events words line call.call reply
  pub later_is : later ≡ line_after line reply
  pub step : IsPlacedStep b call.thread s call.call reply next
  pub state : HasState (words_after stage) next.machine

-- from these words, this write-ahead line and this state on, calls make these stages, one after another
abbrev pub IsRun : Bounds → List ℕ → ℕ → PlacedState → List TraceCall → List Stage → Type 0
IsRun b words line s [] stages = stages ≡ []
IsRun b words line s (call ∷ calls) [] = ⊥
IsRun b words line s (call ∷ calls) (stage ∷ stages) =
    (later : ℕ) × (next : PlacedState) × IsStage b words line s call stage later next × IsRun b (words_after stage) later next calls stages

-- how many events they have
abbrev pub total_events : List Stage → ℕ
total_events [] = 0
total_events (stage ∷ stages) = length stage.events + total_events stages

-- the calls make these stages, in an arena that was formatted with this header: it has no block, and no stack has one
abbrev pub IsRunOf : PoolHeader → List TraceCall → List Stage → Type 0
IsRunOf header calls stages = IsRun (bounds_for header) (formatted header) 0 (bare no_heap) calls stages
