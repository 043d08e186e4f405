-- The run that an arena's steps make.
use Rattle.std.proofs.Common.{◌≡◌, ℕ, List, [], ◌∷◌, sym, ap, ◌∙◌, subst}
use Rattle.trace_crashes.proofs.Common.{PmemState, words_of, PoolHeader, Call, Malloc, Free, Write, Read, Move, Reply, Bounds, Machine, no_heap, bare, bounds_of, ArenaState, call_events, TraceCall, bounds_for, IsNewArena, Stage, IsRunOf, IsRun}
use Rattle.pmem_lines.specs.Events.{reading}
use Rattle.heap_model.specs.Placement.{PlacedState, Stacks, IsPlacedStep}
use Rattle.thread_cache.specs.Stacks.{stacks_of}
use Rattle.heap_check.specs.State.{HasState}
use Rattle.heap_check.proofs.Forms.{bounds_of-same}
use Rattle.arena_journal.specs.Journals.{HasDone}
use Rattle.trace_runs.specs.Runs.{words_after}
use Rattle.trace_crashes.specs.Steps.{Steps, IsStepAt, runs_from}

-- an arena's stacks beside a state
abbrev beside : ArenaState → Machine → PlacedState
beside arena machine = record { machine = machine; stacks = stacks_of arena.stacks }

-- the words behind a call
words_done : (old new : ArenaState) (call : Call) (reply : Reply) → HasDone old new call reply → words_of new.device ≡ reading (words_of old.device) (call_events (words_of old.device) old.line call reply)
words_done old new (Read root index) reply done = ap (λ (a : ArenaState). words_of a.device) done.same
words_done old new (Malloc root size) reply done = ap (λ (s : PmemState). words_of s) done.device
words_done old new (Free root) reply done = ap (λ (s : PmemState). words_of s) done.device
words_done old new (Write root index word) reply done = ap (λ (s : PmemState). words_of s) done.device
words_done old new (Move from to) reply done = ap (λ (s : PmemState). words_of s) done.device

-- from a state that the arena has
run_from : (b : Bounds) (first last : ArenaState) (machine : Machine) (calls : List TraceCall) (stages : List Stage) → HasState (words_of first.device) machine → bounds_of (words_of first.device) ≡ b →
    Steps ArenaState IsStepAt first calls stages last → IsRun b (words_of first.device) first.line (beside first machine) calls stages
run_from b first last machine [] stages state bounds steps = steps.0
run_from b first last machine (call ∷ calls) [] state bounds steps = steps
run_from b first last machine (call ∷ calls) (stage ∷ stages) state bounds steps =
    let next : ArenaState = steps.0 in
    let made : IsStepAt first call stage next = steps.1 in
    let found = made.answered.step.each machine state in
    let behind : words_of next.device ≡ words_after stage = words_done first next call.call made.reply made.answered.done ∙ ap words_after (sym made.is) in (
      next.line,
      beside next found.0,
      record {
        reply = made.reply;
        begins = ap (λ (s : Stage). s.words) made.is;
        events = ap (λ (s : Stage). s.events) made.is;
        later_is = made.answered.line;
        step = subst (λ (c : Bounds). IsPlacedStep c call.thread (beside first machine) call.call made.reply (beside next found.0)) bounds found.1;
        state = subst (λ (words : List ℕ). HasState words found.0) behind found.2;
      },
      subst (λ (words : List ℕ). IsRun b words next.line (beside next found.0) calls stages) behind (run_from b next last found.0 calls stages found.2 (bounds_of-same (words_of first.device) (words_of next.device) made.answered.step.header ∙ bounds) steps.2),
    )

-- from a new arena on
pub run_of : (header : PoolHeader) (calls : List TraceCall) (stages : List Stage) → runs_from ArenaState IsStepAt (IsNewArena header) calls stages → IsRunOf header calls stages
run_of header calls stages made =
    let first : ArenaState = made.0 in
    let new : IsNewArena header first = made.2 in
    let b = bounds_for header in
    subst (λ (words : List ℕ). IsRun b words 0 (bare no_heap) calls stages) new.words
    (subst (λ n. IsRun b (words_of first.device) n (bare no_heap) calls stages) new.line
    (subst (λ (s : Stacks). IsRun b (words_of first.device) first.line (record { machine = no_heap; stacks = s }) calls stages) new.stacks (run_from b first made.1 no_heap calls stages new.empty new.bounds made.3)))
