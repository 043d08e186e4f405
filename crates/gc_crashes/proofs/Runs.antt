-- The run that an arena's steps make.
use Rattle.std.proofs.Common.{◌≡◌, ℕ, List, [], ◌∷◌, sym, ap, ◌∙◌, subst}
use Rattle.pmem_lines.specs.Pmem.{words_of}
use Rattle.pool_layout.specs.declared.header.PoolHeader.{PoolHeader}
use Rattle.heap_model.specs.Machine.{Bounds, Machine, no_heap}
use Rattle.heap_model.specs.Placement.{PlacedState, Stacks, bare, IsPlacedStep}
use Rattle.thread_cache.specs.Stacks.{stacks_of}
use Rattle.heap_check.specs.Image.{bounds_of}
use Rattle.gc_check.specs.State.{HasGcState}
use Rattle.gc_heap.specs.Arena.{GcState}
use Rattle.gc_runs.specs.Arenas.{IsNewGcArena}
use Rattle.gc_runs.specs.Runs.{IsGcRun, IsGcRunOf}
use Rattle.gc_runs.proofs.Behind.{words_answered}
use Rattle.trace_text.specs.declared.call.TraceCall.{TraceCall}
use Rattle.trace_runs.specs.Arenas.{bounds_for}
use Rattle.trace_runs.specs.Runs.{Stage, words_after}
use Rattle.trace_crashes.specs.Steps.{Step, Steps, runs_from}
use Rattle.gc_crashes.specs.declared.arenas.GcSimArena.{GcSimArena}
use Rattle.gc_crashes.specs.Crash.{IsGcStepAt}

-- an arena's stacks beside a state
abbrev beside : GcState → Machine → PlacedState
beside arena machine = record { machine = machine; stacks = stacks_of arena.stacks }

-- the steps of an arena on a simulated device
abbrev pub gc_step : Step GcSimArena
gc_step = λ old call stage new. IsGcStepAt old.0 call stage new.0

-- from a state that the arena has
run_from : (b : Bounds) (first last : GcSimArena) (machine : Machine) (calls : List TraceCall) (stages : List Stage) → HasGcState (words_of first.0.device) machine → bounds_of (words_of first.0.device) ≡ b →
    Steps GcSimArena gc_step first calls stages last → IsGcRun b (words_of first.0.device) (beside first.0 machine) calls stages
run_from b first last machine [] stages state bounds steps = steps.0
run_from b first last machine (call ∷ calls) [] state bounds steps = steps
run_from b first last machine (call ∷ calls) (stage ∷ stages) state bounds steps =
    let old : GcState = first.0 in
    let next : GcSimArena = steps.0 in
    let new : GcState = next.0 in
    let made : IsGcStepAt old call stage new = steps.1 in
    let found = made.answered.step.each machine state in
    let behind : words_of new.device ≡ words_after stage = words_answered call.thread old new call.call made.reply made.answered ∙ ap words_after (sym made.is) in (
      beside new found.0,
      record {
        reply = made.reply;
        begins = ap (λ (s : Stage). s.words) made.is;
        events = ap (λ (s : Stage). s.events) made.is;
        step = subst (λ (c : Bounds). IsPlacedStep c call.thread (beside old machine) call.call made.reply (beside new found.0)) bounds found.1;
        state = subst (λ (words : List ℕ). HasGcState words found.0) behind found.2;
      },
      subst (λ (words : List ℕ). IsGcRun b words (beside new found.0) calls stages) behind (run_from b next last found.0 calls stages found.2 (made.answered.step.bounds ∙ bounds) steps.2),
    )

-- from a new arena on
pub run_of : (header : PoolHeader) (calls : List TraceCall) (stages : List Stage) → runs_from GcSimArena gc_step (λ arena. IsNewGcArena header arena.0) calls stages → IsGcRunOf header calls stages
run_of header calls stages made =
    let first : GcSimArena = made.0 in
    let new : IsNewGcArena header first.0 = made.2 in
    let b = bounds_for header in
    subst (λ (words : List ℕ). IsGcRun b words (bare no_heap) calls stages) new.words
    (subst (λ (s : Stacks). IsGcRun b (words_of first.0.device) (record { machine = no_heap; stacks = s }) calls stages) new.stacks (run_from b first made.1 no_heap calls stages new.empty new.bounds made.3))
