-- The laws of the calls on one word, and of what crashes leave.
use Rattle.std.proofs.Common.{◌≡◌, ◌<◌, ◌≤◌, ℕ, List, [], ◌∷◌, length, Option, Some, None, Ok, Err, Result, get_or, refl, sym, ap, ◌∙◌, arith, inl, inr, ⊎_elim}
use Rattle.arena_core.proofs.Common.{cases_lt, lt-ltb, le-ltb, tables_of, HasNoMove, roots_plain, root_table-past, Call, Reply, Bounds, Machine, HasBlock, heap, slabs, bounds_of, HasState, KeepsBlocks, law_of_steady, heap-none, BlockRefusal, IsStepOfAny, line_after, AreWordsOf, block_refusal}
use Rattle.pmem_lines.proofs.Words.{get_or-words_at}
use Rattle.heap_model.specs.declared.call.Call.TheVariants as calls
use Rattle.heap_model.specs.declared.call.Reply.TheVariants as replies
use Rattle.heap_model.specs.Step.{IsWrite, IsRead, IsValueOf, root_of}
use Rattle.arena_core.specs.Payload.{IsWriteOf, IsWrittenBy}
use Rattle.arena_core.specs.ByCall.{LawOfCrashes, KeepsUnwritten, IsWordRead, LawOfOneWord, LawOfOneRead}

-- crashes

-- where no move entry is open, each root holds its word
holds_word : (image : List ℕ) (root : ℕ) → HasNoMove (tables_of image).open_entry → (tables_of image).root root ≡ (tables_of image).word root
holds_word image root still = ap (λ (f : ℕ → ℕ). f root) (roots_plain image still)

pub law_of_crashes : LawOfCrashes
law_of_crashes (calls.Write root index word) old new image left = record { steady = record { formed = left.exact.formed; steady = law_of_steady (bounds_of image) (tables_of image) left.exact.exact }; bounds = left.bounds; heap = inl left.heap; held = holds_word image root left.still }
law_of_crashes (calls.Move from to) old new image left = record { steady = left.steady; bounds = left.bounds; heap = left.heap; held = left.held }
law_of_crashes call old new image left = record { steady = left.steady; bounds = left.bounds; heap = left.heap; held = holds_word image (root_of call) left.still }

-- words

-- a call that writes no word, and one that does
pub unwritten_blocks : (call : Call) (old new : List ℕ) → KeepsBlocks old new → KeepsUnwritten call old new
unwritten_blocks call old new keeps = grind arith

pub unwritten_write : (old new : List ℕ) (root index word : ℕ) (result : Result (Unit {0}) BlockRefusal) → IsWrittenBy old root index (word ∷ []) new result → KeepsUnwritten (calls.Write root index word) old new
unwritten_write old new root index word result written = grind arith

-- one word

-- the state that an image has, in which no word was written
abbrev bare_state : List ℕ → Machine
bare_state words = record { block = heap (tables_of words); slab = slabs (tables_of words); value = λ root index. None }

HasState-bare : (words : List ℕ) → HasState words (bare_state words)
HasState-bare words = record { blocks = λ root. refl; slabs = λ start. refl; values = λ root index word e. absurd (cc e) }

-- a write of one word is the machine's
is_write : (b : Bounds) (m : Machine) (root index word : ℕ) (reply : Reply) (next : Machine) → IsWriteOf b m root index (word ∷ []) reply next → IsWrite b m root index word reply next
is_write b m root index word reply next (inl past) = inl past
is_write b m root index word reply next (inr (rooted, inr empty)) = inr (rooted, inr empty)
is_write b m root index word reply next (inr (rooted, inl (held, rest))) = inr (rooted, inl (held, grind arith))

pub law_of_one_word : LawOfOneWord
law_of_one_word old new line root index word reply step =
    let bare = step.each (bare_state old) (HasState-bare old) in
    (λ seat stacks. record { header = step.header; each = λ m state. let made = step.each m state in (made.0, record { step = is_write (bounds_of old) m root index word reply made.0 made.1; stacked = refl }, made.2) }, grind arith, grind arith)

-- one read

-- a word is a value of the machine where it is the one that was written
is_value : (written : Option ℕ) (word : ℕ) → ((value : ℕ) → written ≡ Some value → word ≡ value) → IsValueOf written word
is_value written word same = grind arith

-- what is said of a read's answer
abbrev ReadsAs : List ℕ → ℕ → ℕ → ℕ → Reply → Type 0
ReadsAs words line root index reply = IsStepOfAny words words (calls.Read root index) reply × IsWordRead words root index reply × (line_after line reply ≡ line)

-- the step, where the machine reads
read_step : (words : List ℕ) (root index : ℕ) (reply : Reply) → ((m : Machine) → HasState words m → IsRead (bounds_of words) m root index reply m) → IsStepOfAny words words (calls.Read root index) reply
read_step words root index reply reads seat stacks = record { header = refl; each = λ m state. (m, record { step = reads m state; stacked = refl }, state) }

-- a view of a block
module _ (words : List ℕ) (line root index : ℕ) (view : List ℕ) (are : AreWordsOf words root view) where
  abbrev held : (m : Machine) → HasState words m → HasBlock m root
  held m state = record { range = are.range; named = sym (state.blocks root) ∙ are.named }

  within_block : index < length view → ReadsAs words line root index (replies.Value (get_or view index 0))
  within_block below =
      let value = λ (m : Machine) (state : HasState words m). is_value (m.value root index) (get_or view index 0) (λ value is. let written = state.values root index value is in let held = held m state in grind (arith, get_or-words_at)) in
      (read_step words root index (replies.Value (get_or view index 0)) (λ m state. let here = value m state in inr (grind (arith, heap-none, root_table-past), inl (held m state, grind arith))), grind (arith, get_or-words_at), refl)

  past_block : length view ≤ index → ReadsAs words line root index replies.OutOfRange
  past_block past = (read_step words root index replies.OutOfRange (λ m state. inr (grind (arith, heap-none, root_table-past), inl (held m state, inl (grind (arith, are.count), (refl, refl))))), tt, refl)

pub law_of_one_read : LawOfOneRead
law_of_one_read words line root index (Ok view) are = ⊎_elim
    (λ (below : index < length view.now). rw (lt-ltb index (length view.now) below) (within_block words line root index view.now are below))
    (λ (past : length view.now ≤ index). rw (le-ltb index (length view.now) past) (past_block words line root index view.now are past))
    (cases_lt index (length view.now))
law_of_one_read words line root index (Err refusal) plan = (read_step words root index (block_refusal refusal) (λ m state. grind arith), grind arith, grind arith)
