-- The calls of one arena, and the journal that answers them, one call further.
use Rattle.std.proofs.Common.{◌≡◌, ◌≢◌, ℕ, ◌+◌, ◌<◌, ◌^◌, List, [], ◌∷◌, ◌++◌, length, take, get_or, flat_map, sym, ap, ◌∙◌, subst, arith, length-append, append_assoc}
use Rattle.std.proofs.lemmas.List.{append-nil, flat_map_more, length-take-le}
use Rattle.pmem_lines.specs.Pmem.{words_of}
use Rattle.heap_model.specs.declared.block.Block.{Block}
use Rattle.heap_model.specs.declared.call.Entry.{Entry}
use Rattle.heap_model.specs.declared.call.Call.{Call}
use Rattle.trace_text.specs.declared.call.TraceCall.{TraceCall}
use Rattle.trace_text.specs.Report.{arena_line, entry_line, heap_text}
use Rattle.trace_runs.specs.Calls.{calls_of, AreAnswers}
use Rattle.trace_runs.proofs.Answers.{calls_of-here, calls_of-other, calls_of-few}
use Rattle.gc_heap.specs.Arena.{GcState}
use Rattle.gc_runs.specs.Answered.{HasGcAnswered}
use Rattle.gc_runs.specs.Kept.{HasMadeGc, HasToldGc, HasReportedGc}
use Rattle.gc_runs.specs.Told.{gc_blocks_in}
use Rattle.gc_runs.proofs.Behind.{behind_new, behind_more}

-- one call more is answered
answers_more : (calls : List TraceCall) (journal : List Entry) (call : TraceCall) (entry : Entry) → AreAnswers calls journal → entry.seat ≡ call.thread → entry.call ≡ call.call → AreAnswers (calls ++ call ∷ []) (journal ++ entry ∷ [])
answers_more [] [] call entry are seat asked = (seat, asked, tt)
answers_more [] (e ∷ journal) call entry are seat asked = absurd are
answers_more (c ∷ calls) [] call entry are seat asked = absurd are
answers_more (c ∷ calls) (e ∷ journal) call entry are seat asked = (are.0, are.1, answers_more calls journal call entry are.2 seat asked)

-- calls and answers are as many
pub answers_length : (calls : List TraceCall) (journal : List Entry) → AreAnswers calls journal → length journal ≡ length calls
answers_length [] [] are = omega arith
answers_length [] (e ∷ journal) are = absurd are
answers_length (c ∷ calls) [] are = absurd are
answers_length (c ∷ calls) (e ∷ journal) are = let rest = answers_length calls journal are.2 in omega (arith, rest)

-- no call was made yet
pub made_none : (arena : GcState) → HasMadeGc arena arena [] []
made_none arena = record { answers = tt; behind = λ header new. behind_new header arena new }

-- one call of a list further
pub made_here : (number : ℕ) (calls : List TraceCall) (i : ℕ) (d : TraceCall) (first old new : GcState) (journal : List Entry) (entry : Entry) → i < length calls → (get_or calls i d).arena ≡ number →
    HasMadeGc first old (calls_of number (take i calls)) journal → entry.seat ≡ (get_or calls i d).thread → entry.call ≡ (get_or calls i d).call →
    HasGcAnswered (get_or calls i d).thread old new (get_or calls i d).call entry.reply → HasMadeGc first new (calls_of number (take (i + 1) calls)) (journal ++ entry ∷ [])
made_here number calls i d first old new journal entry here is made seat asked answered =
    let call = get_or calls i d in
    let its : HasGcAnswered entry.seat old new entry.call entry.reply = subst (λ s. HasGcAnswered s old new entry.call entry.reply) (sym seat) (subst (λ (c : Call). HasGcAnswered call.thread old new c entry.reply) (sym asked) answered) in
    subst (λ (cs : List TraceCall). HasMadeGc first new cs (journal ++ entry ∷ [])) (sym (calls_of-here number calls i d here is)) (record {
      answers = answers_more (calls_of number (take i calls)) journal call entry made.answers seat asked;
      behind = λ header new_arena. behind_more header journal old new entry (made.behind header new_arena) its;
    })

pub made_other : (number : ℕ) (calls : List TraceCall) (i : ℕ) (d : TraceCall) (first now : GcState) (journal : List Entry) → i < length calls → (get_or calls i d).arena ≢ number →
    HasMadeGc first now (calls_of number (take i calls)) journal → HasMadeGc first now (calls_of number (take (i + 1) calls)) journal
made_other number calls i d first now journal here is made = subst (λ (cs : List TraceCall). HasMadeGc first now cs journal) (sym (calls_of-other number calls i d here is)) made

-- how many of a list's calls are an arena's, one call further
pub count_here : (number : ℕ) (calls : List TraceCall) (i : ℕ) (d : TraceCall) → i < length calls → (get_or calls i d).arena ≡ number → length (calls_of number (take (i + 1) calls)) ≡ length (calls_of number (take i calls)) + 1
count_here number calls i d here is = ap (λ (cs : List TraceCall). length cs) (calls_of-here number calls i d here is) ∙ length-append (calls_of number (take i calls)) (get_or calls i d ∷ [])

pub count_other : (number : ℕ) (calls : List TraceCall) (i : ℕ) (d : TraceCall) → i < length calls → (get_or calls i d).arena ≢ number → length (calls_of number (take (i + 1) calls)) ≡ length (calls_of number (take i calls))
count_other number calls i d here is = ap (λ (cs : List TraceCall). length cs) (calls_of-other number calls i d here is)

-- they are few
pub count_few : (number : ℕ) (calls : List TraceCall) (i : ℕ) → length calls < 2 ^ 32 → i < length calls → length (calls_of number (take i calls)) < 2 ^ 32
count_few number calls i few here = omega (arith, calls_of-few number (take i calls), length-take-le i calls (omega (arith, here)), few, here)

-- no call was made yet, and no line written
pub told_none : (arena : GcState) (text : List ℕ) → HasToldGc arena arena [] text text
told_none arena text = record { journal = []; made = made_none arena; told = sym (append-nil text) }

-- one call of a list further, and its line
pub told_here : (number : ℕ) (calls : List TraceCall) (i : ℕ) (d : TraceCall) (first old new : GcState) (text before after : List ℕ) (entry : Entry) → i < length calls → (get_or calls i d).arena ≡ number →
    HasToldGc first old (calls_of number (take i calls)) text before → entry.seat ≡ (get_or calls i d).thread → entry.call ≡ (get_or calls i d).call →
    HasGcAnswered (get_or calls i d).thread old new (get_or calls i d).call entry.reply → after ≡ before ++ entry_line entry → HasToldGc first new (calls_of number (take (i + 1) calls)) text after
told_here number calls i d first old new text before after entry here is told seat asked answered line = record {
  journal = told.journal ++ entry ∷ [];
  made = made_here number calls i d first old new told.journal entry here is told.made seat asked answered;
  told = line ∙ ap (λ (t : List ℕ). t ++ entry_line entry) told.told ∙ flat_map_more entry_line text told.journal entry;
}

pub told_other : (number : ℕ) (calls : List TraceCall) (i : ℕ) (d : TraceCall) (first now : GcState) (text so_far : List ℕ) → i < length calls → (get_or calls i d).arena ≢ number →
    HasToldGc first now (calls_of number (take i calls)) text so_far → HasToldGc first now (calls_of number (take (i + 1) calls)) text so_far
told_other number calls i d first now text so_far here is told = record { journal = told.journal; made = made_other number calls i d first now told.journal here is told.made; told = told.told }

-- the line of the arena, the lines of the calls and the blocks are the report
pub told_report : (number : ℕ) (calls : List TraceCall) (first now : GcState) (many : ℕ) (blocks : List Block) (old head lines all : List ℕ) → many ≡ length (calls_of number calls) → head ≡ old ++ arena_line number many →
    HasToldGc first now (calls_of number calls) head lines → blocks ≡ gc_blocks_in (words_of now.device) → all ≡ lines ++ heap_text blocks → HasReportedGc first now (calls_of number calls) number old all
told_report number calls first now many blocks old head lines all count begun told are last =
    let line = arena_line number (length told.journal) in
    let entries = flat_map entry_line told.journal in
    let heap = heap_text (gc_blocks_in (words_of now.device)) in
    let front : head ≡ old ++ line = begun ∙ ap (λ n. old ++ arena_line number n) (count ∙ sym (answers_length (calls_of number calls) told.journal told.made.answers)) in
    record {
      journal = told.journal;
      made = told.made;
      told =
          last ∙ ap (λ (bs : List Block). lines ++ heap_text bs) are
          ∙ ap (λ (t : List ℕ). t ++ heap) (told.told ∙ ap (λ (t : List ℕ). t ++ entries) front ∙ append_assoc old line entries)
          ∙ append_assoc old (line ++ entries) heap;
    }

-- the journal has no more entries than the trace has calls
pub made_few : (number : ℕ) (calls : List TraceCall) (first now : GcState) (journal : List Entry) → length calls < 2 ^ 32 → HasMadeGc first now (calls_of number calls) journal → length journal < 2 ^ 63
made_few number calls first now journal few made = let many = answers_length (calls_of number calls) journal made.answers in let some = calls_of-few number calls in omega (arith, many, some, few)
