-- The calls of one arena, and the journal that answers them, one call further.
use Rattle.std.proofs.Common.{◌≡◌, ◌≢◌, ◌==◌, ℕ, suc, ◌+◌, ◌≤◌, ◌<◌, ◌^◌, Bool, true, false, if◌then◌else◌, List, [], ◌∷◌, ◌++◌, length, take, get_or, refl, sym, ap, ◌∙◌, subst, arith, eq-eqb, ne_eqb}
use Rattle.std.proofs.lemmas.List.{append-nil}
use Rattle.std.proofs.Math.Seq.{take-suc}
use Rattle.std.specs.List.{All}
use Rattle.pmem_lines.specs.Pmem.{words_of}
use Rattle.pool_layout.specs.declared.header.PoolHeader.{PoolHeader}
use Rattle.heap_model.specs.declared.call.Entry.{Entry}
use Rattle.heap_check.specs.Image.{IsExactImage}
use Rattle.arena_core.specs.Arena.{ArenaState}
use Rattle.arena_core.specs.Call.{IsReady}
use Rattle.arena_journal.specs.Journals.{opened, HasAnswered}
use Rattle.arena_journal.proofs.Journals.{behind_none, behind_answered}
use Rattle.trace_text.specs.declared.call.TraceCall.{TraceCall}
use Rattle.trace_text.specs.Grammar.{IsTraceCall}
use Rattle.trace_runs.specs.Arenas.{IsNewArena}
use Rattle.trace_runs.specs.Calls.{calls_of, CanBeMade, AreAnswers, HasMadeAll}
use Rattle.trace_runs.specs.Journals.{HasRun}
use Rattle.trace_runs.proofs.Journals.{HasRun-behind}

-- each call of a trace can be made
pub All-made : (arenas : ℕ) (calls : List TraceCall) → All (IsTraceCall arenas) calls → All CanBeMade calls
All-made arenas calls valid k d here = let one = valid k d here in one.thread

-- the calls of an arena, one call of a trace further

if_append : (b : Bool) (call : TraceCall) (xs ys : List TraceCall) → (if b then call ∷ (xs ++ ys) else (xs ++ ys)) ≡ (if b then call ∷ xs else xs) ++ ys
if_append true call xs ys = refl
if_append false call xs ys = refl

pub calls_of-append : (arena : ℕ) (xs ys : List TraceCall) → calls_of arena (xs ++ ys) ≡ calls_of arena xs ++ calls_of arena ys
calls_of-append arena [] ys = refl
calls_of-append arena (x ∷ xs) ys =
    ap (λ (cs : List TraceCall). if x.arena == arena then x ∷ cs else cs) (calls_of-append arena xs ys) ∙ if_append (x.arena == arena) x (calls_of arena xs) (calls_of arena ys)

next_call : (calls : List TraceCall) (i : ℕ) (d : TraceCall) → i < length calls → take (i + 1) calls ≡ take i calls ++ get_or calls i d ∷ []
next_call calls i d here = ap (λ n. take n calls) (let one : i + 1 ≡ suc i = omega arith in one) ∙ take-suc calls i d here

-- where it is one of the arena's
pub calls_of-here : (arena : ℕ) (calls : List TraceCall) (i : ℕ) (d : TraceCall) → i < length calls → (get_or calls i d).arena ≡ arena → calls_of arena (take (i + 1) calls) ≡ calls_of arena (take i calls) ++ get_or calls i d ∷ []
calls_of-here arena calls i d here is =
    let call = get_or calls i d in
    ap (calls_of arena) (next_call calls i d here) ∙ calls_of-append arena (take i calls) (call ∷ [])
    ∙ ap (λ (b : Bool). calls_of arena (take i calls) ++ (if b then call ∷ [] else [])) (eq-eqb call.arena arena is)

-- where it is another's
pub calls_of-other : (arena : ℕ) (calls : List TraceCall) (i : ℕ) (d : TraceCall) → i < length calls → (get_or calls i d).arena ≢ arena → calls_of arena (take (i + 1) calls) ≡ calls_of arena (take i calls)
calls_of-other arena calls i d here is =
    let call = get_or calls i d in
    ap (calls_of arena) (next_call calls i d here) ∙ calls_of-append arena (take i calls) (call ∷ [])
    ∙ ap (λ (b : Bool). calls_of arena (take i calls) ++ (if b then call ∷ [] else [])) (ne_eqb call.arena arena is) ∙ append-nil (calls_of arena (take i calls))

few_if : (b : Bool) (call : TraceCall) (xs : List TraceCall) (n : ℕ) → length xs ≤ n → length (if b then call ∷ xs else xs) ≤ suc n
few_if true call xs n le = omega (arith, le)
few_if false call xs n le = omega (arith, le)

-- an arena has no more calls than the trace
pub calls_of-few : (arena : ℕ) (calls : List TraceCall) → length (calls_of arena calls) ≤ length calls
calls_of-few arena [] = omega arith
calls_of-few arena (c ∷ cs) = few_if (c.arena == arena) c (calls_of arena cs) (length cs) (calls_of-few arena cs)

-- answers

-- one call more is answered
AreAnswers-more : (calls : List TraceCall) (journal : List Entry) (call : TraceCall) (entry : Entry) → AreAnswers calls journal → entry.seat ≡ call.thread → entry.call ≡ call.call →
    AreAnswers (calls ++ call ∷ []) (journal ++ entry ∷ [])
AreAnswers-more [] [] call entry are seat asked = (seat, asked, tt)
AreAnswers-more [] (e ∷ journal) call entry are seat asked = absurd are
AreAnswers-more (c ∷ calls) [] call entry are seat asked = absurd are
AreAnswers-more (c ∷ calls) (e ∷ journal) call entry are seat asked = (are.0, are.1, AreAnswers-more calls journal call entry are.2 seat asked)

-- calls and answers are as many
AreAnswers-length : (calls : List TraceCall) (journal : List Entry) → AreAnswers calls journal → length journal ≡ length calls
AreAnswers-length [] [] are = refl
AreAnswers-length [] (e ∷ journal) are = absurd are
AreAnswers-length (c ∷ calls) [] are = absurd are
AreAnswers-length (c ∷ calls) (e ∷ journal) are = ap suc (AreAnswers-length calls journal are.2)

-- no call was made yet
pub HasMadeAll-none : (arena : ArenaState) → IsReady arena.device → IsExactImage (words_of arena.device) → HasMadeAll arena arena []
HasMadeAll-none arena ready exact = record { journal = []; answers = tt; behind = behind_none arena ready exact }

-- one call of a list further
pub HasMadeAll-here : (number : ℕ) (calls : List TraceCall) (i : ℕ) (d : TraceCall) (first old new : ArenaState) (entry : Entry) → All CanBeMade calls → i < length calls → (get_or calls i d).arena ≡ number →
    HasMadeAll first old (calls_of number (take i calls)) → entry.seat ≡ (get_or calls i d).thread → entry.call ≡ (get_or calls i d).call →
    HasAnswered (get_or calls i d).thread old new (get_or calls i d).call entry.reply → HasMadeAll first new (calls_of number (take (i + 1) calls))
HasMadeAll-here number calls i d first old new entry valid here is made seat asked answered =
    let call = get_or calls i d in
    subst (λ (cs : List TraceCall). HasMadeAll first new cs) (sym (calls_of-here number calls i d here is)) (record {
      journal = made.journal ++ entry ∷ [];
      answers = AreAnswers-more (calls_of number (take i calls)) made.journal call entry made.answers seat asked;
      behind = behind_answered (opened first) made.journal old new call.thread call.call entry made.behind seat asked answered;
    })

pub HasMadeAll-other : (number : ℕ) (calls : List TraceCall) (i : ℕ) (d : TraceCall) (first now : ArenaState) → i < length calls → (get_or calls i d).arena ≢ number →
    HasMadeAll first now (calls_of number (take i calls)) → HasMadeAll first now (calls_of number (take (i + 1) calls))
HasMadeAll-other number calls i d first now here is made = subst (λ (cs : List TraceCall). HasMadeAll first now cs) (sym (calls_of-other number calls i d here is)) made

-- the device that they leave went through their journal
pub HasRun-made : (header : PoolHeader) (calls : List TraceCall) (number : ℕ) (first now : ArenaState) → IsNewArena header first → length calls < 2 ^ 32 → (made : HasMadeAll first now (calls_of number calls)) →
    HasRun header now.device made.journal made.behind.machine
HasRun-made header calls number first now new few made =
    let many = AreAnswers-length (calls_of number calls) made.journal made.answers in
    let some = calls_of-few number calls in
    HasRun-behind header first now made.journal new (omega (arith, many, some, few)) made.behind
