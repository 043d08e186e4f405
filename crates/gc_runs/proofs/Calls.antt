-- What an arena of this variant answered to each kind of call.
use Rattle.std.proofs.Common.{◌≡◌, ◌<◌, ◌≤◌, ℕ, List, [], ◌∷◌, length, Option, Some, Ok, Err, Result, get_or, refl, sym, ap, ◌∙◌, arith, inl, inr, ⊎_elim}
use Rattle.std.specs.Borrow.{Bor}
use Rattle.std.proofs.lemmas.Bool.{cases_lt, lt-ltb, le-ltb}
use Rattle.pmem_lines.specs.Pmem.{words_of, began, appended}
use Rattle.pmem_lines.proofs.Words.{get_or-words_at}
use Rattle.heap_model.specs.declared.call.Call.TheVariants as calls
use Rattle.heap_model.specs.declared.call.Reply.{Reply}
use Rattle.heap_model.specs.declared.call.Reply.TheVariants as replies
use Rattle.heap_model.specs.Machine.{Bounds, Machine}
use Rattle.heap_model.specs.Placement.{Stacks}
use Rattle.heap_model.specs.Step.{IsWrite, IsRead, IsValueOf, HasBlock}
use Rattle.thread_cache.specs.Stacks.{StackTable, stacks_of}
use Rattle.heap_check.specs.Image.{bounds_of}
use Rattle.arena_core.specs.declared.answer.BlockRefusal.{BlockRefusal}
use Rattle.arena_core.specs.declared.answer.BlockRefusal.TheVariants.{NoRoot, Empty, OutOfRange}
use Rattle.arena_core.specs.Answer.{write_reply, read_reply}
use Rattle.arena_core.specs.Call.{IsReady}
use Rattle.arena_core.specs.Payload.{IsWriteOf}
use Rattle.gc_check.specs.Image.{IsGcExactImage}
use Rattle.gc_check.specs.State.{HasGcState}
use Rattle.gc_heap.specs.Arena.{GcState}
use Rattle.gc_heap.specs.Answered.{IsGcStepOf, IsGcAnswered}
use Rattle.gc_heap.specs.Events.{gc_call_events}
use Rattle.gc_heap.proofs.RootBlocks.{word_past, no_block}
use Rattle.gc_heap.specs.Payload.{IsGcWriteStep, IsGcWriteAnswered, AreGcWordsOf, IsGcViewOf, gc_payload_events}
use Rattle.gc_runs.specs.Answered.{HasGcAnswered}

-- a malloc and a free

pub answered_malloc : (seat : ℕ) {old new : GcState} {root size : ℕ} {reply : Reply} → IsGcAnswered seat old new (calls.Malloc root size) reply → HasGcAnswered seat old new (calls.Malloc root size) reply
answered_malloc seat a = record { step = a.step; done = record { device = a.did.device; crash = a.did.crash }; was_exact = a.did.was_exact; exact = a.did.exact; ready = a.did.ready }

pub answered_free : (seat : ℕ) {old new : GcState} {root : ℕ} {reply : Reply} → IsGcAnswered seat old new (calls.Free root) reply → HasGcAnswered seat old new (calls.Free root) reply
answered_free seat a = record { step = a.step; done = record { device = a.did.device; crash = a.did.crash }; was_exact = a.did.was_exact; exact = a.did.exact; ready = a.did.ready }

-- a write of one word

is_write : (b : Bounds) (m : Machine) (root index word : ℕ) (reply : Reply) (next : Machine) → IsWriteOf b m root index (word ∷ []) reply next → IsWrite b m root index word reply next
is_write b m root index word reply next (inl past) = inl past
is_write b m root index word reply next (inr (rooted, inr empty)) = inr (rooted, inr empty)
is_write b m root index word reply next (inr (rooted, inl (held, rest))) = inr (rooted, inl (held, grind arith))

write_step : (seat : ℕ) (old new : List ℕ) (was after : Stacks) (root index word : ℕ) (reply : Reply) → after ≡ was → IsGcWriteStep old new root index (word ∷ []) reply → IsGcStepOf seat old was new after (calls.Write root index word) reply
write_step seat old new was after root index word reply same step = record {
  bounds = step.bounds;
  each = λ m state. let made = step.each m state in (made.0, record { step = is_write (bounds_of old) m root index word reply made.0 made.1; stacked = same }, made.2);
}

write_events_are : (old : List ℕ) (root index word : ℕ) (result : Result (Unit {0}) BlockRefusal) → gc_payload_events old root index (word ∷ []) (write_reply result) ≡ gc_call_events old (calls.Write root index word) (write_reply result)
write_events_are old root index word (Ok done) = refl
write_events_are old root index word (Err NoRoot) = refl
write_events_are old root index word (Err Empty) = refl
write_events_are old root index word (Err OutOfRange) = refl

pub answered_write : (seat : ℕ) {old new : GcState} {root index word : ℕ} {result : Result (Unit {0}) BlockRefusal} → IsGcWriteAnswered old new root index (word ∷ []) result → HasGcAnswered seat old new (calls.Write root index word) (write_reply result)
answered_write seat {old} {new} {root} {index} {word} {result} wrote = record {
  step = write_step seat (words_of old.device) (words_of new.device) (stacks_of old.stacks) (stacks_of new.stacks) root index word (write_reply result) (ap (λ (table : StackTable). stacks_of table) wrote.stacks) wrote.step;
  done = record { device = wrote.did.device ∙ ap (appended (began old.device)) (write_events_are (words_of old.device) root index word result); crash = wrote.did.crash };
  was_exact = wrote.did.was_exact;
  exact = wrote.did.exact;
  ready = wrote.did.ready;
}

-- a read

is_value : (written : Option ℕ) (word : ℕ) → ((value : ℕ) → written ≡ Some value → word ≡ value) → IsValueOf written word
is_value written word same = grind arith

abbrev ReadsAs : List ℕ → ℕ → ℕ → Reply → Type 0
ReadsAs words root index reply = (m : Machine) → HasGcState words m → IsRead (bounds_of words) m root index reply m

-- a root that has a block is one of the arena's
rooted_by : (words : List ℕ) (root : ℕ) (view : List ℕ) → AreGcWordsOf words root view → ¬ ((bounds_of words).roots ≤ root)
rooted_by words root view are past = let none = no_block words root (word_past words root past) in let named = are.named in cc

module _ (words : List ℕ) (root index : ℕ) (view : List ℕ) (are : AreGcWordsOf words root view) where
  abbrev held : (m : Machine) → HasGcState words m → HasBlock m root
  held m state = record { range = are.range; named = sym (state.blocks root) ∙ are.named }

  within_block : index < length view → ReadsAs words root index (replies.Value (get_or view index 0))
  within_block below m state =
      let here = is_value (m.value root index) (get_or view index 0) (λ value is. let written = state.values root index value is in let held = held m state in grind (arith, get_or-words_at)) in
      inr (rooted_by words root view are, inl (held m state, grind arith))

  past_block : length view ≤ index → ReadsAs words root index replies.OutOfRange
  past_block past m state = inr (rooted_by words root view are, inl (held m state, inl (grind (arith, are.count), (refl, refl))))

pub read_as : (words : List ℕ) (root index : ℕ) (view : Result (Bor (List ℕ)) BlockRefusal) → IsGcViewOf words root view → ReadsAs words root index (read_reply view index)
read_as words root index (Ok view) are = ⊎_elim
    (λ (below : index < length view.now). rw (lt-ltb index (length view.now) below) (within_block words root index view.now are below))
    (λ (past : length view.now ≤ index). rw (le-ltb index (length view.now) past) (past_block words root index view.now are past))
    (cases_lt index (length view.now))
read_as words root index (Err refusal) plan = λ m state. grind arith

pub answered_read : (seat : ℕ) (arena : GcState) (root index : ℕ) (view : Result (Bor (List ℕ)) BlockRefusal) → IsGcViewOf (words_of arena.device) root view → IsGcExactImage (words_of arena.device) → IsReady arena.device →
    HasGcAnswered seat arena arena (calls.Read root index) (read_reply view index)
answered_read seat arena root index view is exact ready = record {
  step = record { bounds = refl; each = λ m state. (m, record { step = read_as (words_of arena.device) root index view is m state; stacked = refl }, state) };
  done = refl;
  was_exact = exact;
  exact = exact;
  ready = ready;
}
