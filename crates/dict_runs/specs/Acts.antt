-- Calls of an arena as a dictionary makes them, one after another: all by seat 0, and a row of words in one call.
use Rattle.std.specs.Prelude.{◌≡◌, ℕ, List}
use Rattle.pmem_lines.specs.declared.event.Event.{Event}
use Rattle.heap_model.specs.declared.call.Call.{Call}
use Rattle.heap_model.specs.declared.call.Reply.{Reply}
use Rattle.heap_model.specs.Machine.{Bounds}
use Rattle.heap_model.specs.Placement.{PlacedState, IsPlacedStep}
use Rattle.heap_check.specs.State.{HasState}
use Rattle.arena_core.specs.Events.{call_events, line_after}
use Rattle.arena_core.specs.Payload.{payload_events, IsWriteOf}
use Rattle.trace_runs.specs.Runs.{Stage, words_after}

-- a call of the arena
pub data Act : Type 0 where
  Ask : (call : Call) → Act
  -- words are written into a root's block, from its first one on
  Fill : (root : ℕ) (contents : List ℕ) → Act

-- its events where it has this reply
abbrev pub act_events : List ℕ → ℕ → Act → Reply → List Event
act_events words line (Ask call) reply = call_events words line call reply
act_events words line (Fill root contents) reply = payload_events words root 0 contents reply

-- the step of the machine and its placement
abbrev pub IsActStep : Bounds → PlacedState → Act → Reply → PlacedState → Type 0
IsActStep b s (Ask call) reply next = IsPlacedStep b 0 s call reply next
IsActStep b s (Fill root contents) reply next = IsWriteOf b s.machine root 0 contents reply next.machine × (next.stacks ≡ s.stacks)

-- where a run stands: the words, the write-ahead line of the next entry, and the machine's state with the stacks beside it
pub record Standing : Type 0 where
  pub words : List ℕ
  pub line : ℕ
  pub placed : PlacedState

-- from one place to another one call leads, which is this stage
pub record Leads (b : Bounds) (from : Standing) (act : Act) (reply : Reply) (stage : Stage) (to : Standing) : Type 0 where
  pub begins : stage.words ≡ from.words
  pub events : stage.events ≡ act_events from.words from.line act reply
  pub step : IsActStep b from.placed act reply to.placed
  pub words : to.words ≡ words_after stage
  pub line : to.line ≡ line_after from.line reply
  pub state : HasState to.words to.placed.machine
