-- What the calls of an arena settle.
use Rattle.std.proofs.Common.{◌≡◌, ℕ, List, [], ◌∷◌, sym, ◌∙◌, subst}
use Rattle.std.specs.List.{All}
use Rattle.std.proofs.lemmas.List.Elements.{All-head, All-tail}
use Rattle.heap_model.specs.declared.call.Entry.{Entry}
use Rattle.heap_model.specs.Machine.{Bounds, no_heap}
use Rattle.heap_model.specs.Placement.{PlacedState, bare}
use Rattle.heap_model.specs.Journal.{IsOfBlock, AskTheSame}
use Rattle.heap_model.proofs.Placements.{law_of_one_journal as one_journal}
use Rattle.trace_text.specs.declared.call.TraceCall.{TraceCall}
use Rattle.trace_runs.specs.Arenas.{bounds_for, formatted}
use Rattle.trace_runs.specs.Calls.{CanBeMade, IsOfBlocks, AreAnswers}
use Rattle.trace_runs.specs.Runs.{Stage, IsStage, IsRun, words_after}
use Rattle.trace_runs.proofs.OneWay.{IsOneWay-step}
use Rattle.trace_runs.specs.Laws.{LawOfOneJournal, LawOfOneRun}

-- two journals of the calls ask the same
ask_the_same : (calls : List TraceCall) (journal other : List Entry) → All IsOfBlocks calls → AreAnswers calls journal → AreAnswers calls other → AskTheSame journal other
ask_the_same [] [] [] valid one two = tt
ask_the_same [] [] (entry ∷ other) valid one two = absurd two
ask_the_same [] (entry ∷ journal) other valid one two = absurd one
ask_the_same (call ∷ calls) [] other valid one two = absurd one
ask_the_same (call ∷ calls) (entry ∷ journal) [] valid one two = absurd two
ask_the_same (call ∷ calls) (entry ∷ journal) (another ∷ other) valid one two = (
  one.0 ∙ sym two.0,
  one.1 ∙ sym two.1,
  subst IsOfBlock (sym one.1) (All-head IsOfBlocks call calls valid),
  ask_the_same calls journal other (All-tail IsOfBlocks call calls valid) one.2 two.2,
)

pub law_of_one_journal : LawOfOneJournal
law_of_one_journal header calls journal other last another valid first second one two =
    one_journal (bounds_for header) (bare no_heap) last another journal other (ask_the_same calls journal other valid first second) one two

-- one call, from the same words, line and state, makes one stage
stage_once : (b : Bounds) (words : List ℕ) (line : ℕ) (s next last : PlacedState) (later after : ℕ) (call : TraceCall) (stage other : Stage) → IsStage b words line s call stage later next → IsStage b words line s call other after last →
    (stage ≡ other) × (later ≡ after) × (next ≡ last)
stage_once b words line s next last later after call stage other one two =
    let same = IsOneWay-step b words line call.thread s next last call.call one.reply two.reply one.step two.step in
    let events : stage.events ≡ other.events = one.events ∙ same.events ∙ sym two.events in
    let begins : stage.words ≡ other.words = one.begins ∙ sym two.begins in
    (λ i. record { words = begins i; events = events i }, one.later_is ∙ same.later ∙ sym two.later_is, same.state)

run_once : (b : Bounds) (words : List ℕ) (line : ℕ) (s : PlacedState) (calls : List TraceCall) (stages others : List Stage) → All CanBeMade calls → IsRun b words line s calls stages → IsRun b words line s calls others → stages ≡ others
run_once b words line s [] stages others valid one two = one ∙ sym two
run_once b words line s (call ∷ calls) [] others valid one two = absurd one
run_once b words line s (call ∷ calls) (stage ∷ stages) [] valid one two = absurd two
run_once b words line s (call ∷ calls) (stage ∷ stages) (other ∷ others) valid one two =
    let same = stage_once b words line s one.1 two.1 one.0 two.0 call stage other one.2 two.2 in
    let rest : stages ≡ others = run_once b (words_after stage) one.0 one.1 calls stages others (All-tail CanBeMade call calls valid) one.3
    (subst (λ (n : PlacedState). IsRun b (words_after stage) one.0 n calls others) (sym same.2)
    (subst (λ line. IsRun b (words_after stage) line two.1 calls others) (sym same.1) (subst (λ (z : Stage). IsRun b (words_after z) two.0 two.1 calls others) (sym same.0) two.3))) in
    λ i. same.0 i ∷ rest i

pub law_of_one_run : LawOfOneRun
law_of_one_run header calls stages others valid one two = run_once (bounds_for header) (formatted header) 0 (bare no_heap) calls stages others valid one two
