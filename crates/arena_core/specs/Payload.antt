-- The words of a root's block: what writing them is, as a step of the heap machine and on the words of an arena, what a
-- crash within it leaves, and what a view lends.
use Rattle.std.specs.Prelude.{◌≡◌, ◌⊎◌, ℕ, ◌+◌, ◌*◌, ◌/◌, ◌%◌, ◌<◌, ◌≤◌, List, [], ◌∷◌, length, slice_index, Result, Ok, Err, Some, None}
use Rattle.std.specs.Borrow.{Bor}
use Rattle.pmem_lines.specs.Words.{word_at, words_at}
use Rattle.pmem_lines.specs.declared.event.Event.{Event}
use Rattle.pmem_lines.specs.Pmem.{PmemState, words_of}
use Rattle.pmem_lines.specs.Steps.{IsQuietStep}
use Rattle.pool_layout.specs.Places.{fields_word}
use Rattle.image_tables.specs.Tables.{tables_of}
use Rattle.image_tables.specs.Updates.{HasNoMove}
use Rattle.heap_model.specs.declared.block.Block.{Block}
use Rattle.heap_model.specs.declared.call.Reply.{Reply}
use Rattle.heap_model.specs.declared.call.Reply.TheVariants as replies
use Rattle.heap_model.specs.Machine.{Bounds, Range, Machine}
use Rattle.heap_model.specs.Step.{with_value, First, IsRefused, HasBlock}
use Rattle.heap_check.specs.Heap.{heap, slabs}
use Rattle.heap_check.specs.Image.{bounds_of, IsExactImage}
use Rattle.heap_check.specs.State.{HasState, HaveSameHeap}
use Rattle.arena_core.specs.declared.answer.BlockRefusal.{BlockRefusal}
use Rattle.arena_core.specs.declared.answer.BlockRefusal.TheVariants.{NoRoot, Empty, OutOfRange}
use Rattle.arena_core.specs.declared.volatile.Volatile.{Volatile}
use Rattle.arena_core.specs.Answer.{write_reply}
use Rattle.arena_core.specs.Arena.{IsArena}
use Rattle.arena_core.specs.Events.{write_events}

-- the machine

-- words of a root's block are written, from an index on
abbrev pub with_values : Machine → ℕ → ℕ → List ℕ → Machine
with_values m root from [] = m
with_values m root from (word ∷ words) = with_values (with_value m root from word) root (from + 1) words

-- words of a root's block are asked to be written, from an index on: all of them are, or none is
abbrev pub IsWriteOf : Bounds → Machine → ℕ → ℕ → List ℕ → Reply → Machine → Type 0
IsWriteOf b m root from words reply next =
    First (b.roots ≤ root) (λ _. IsRefused m replies.NoRoot reply next)
    (First (HasBlock m root) (λ held.
    First (held.range.size / 8 < from + length words) (λ _. IsRefused m replies.OutOfRange reply next)
    ((reply ≡ replies.Wrote) × (next ≡ with_values m root from words)))
    (IsRefused m replies.Empty reply next))

-- each state that the old words have leads by such a write to one that the new words have, and the fields of the header are the same
pub record IsWriteStep (old new : List ℕ) (root from : ℕ) (words : List ℕ) (reply : Reply) : Type 0 where
  pub header : word_at new fields_word ≡ word_at old fields_word
  pub each : (m : Machine) → HasState old m → (next : Machine) × IsWriteOf (bounds_of old) m root from words reply next × HasState new next

-- events

-- those of a write with this reply, of an arena of these words: a refusal has none
abbrev pub payload_events : List ℕ → ℕ → ℕ → List ℕ → Reply → List Event
payload_events old root from words replies.Wrote = write_events (tables_of old) root from words
payload_events old root from words reply = []

-- the words

-- word k is one of so many of a root's block, from an index on
pub record IsNamedWord (words : List ℕ) (root from count k : ℕ) : Type 0 where
  pub low : (tables_of words).root root / 8 + from ≤ k
  pub high : k < (tables_of words).root root / 8 + from + count

-- the words of the root's block from an index on are these, and every other word, the heap and the slabs are as before
pub record HasWritten (old : List ℕ) (root from : ℕ) (words new : List ℕ) : Type 0 where
  pub same_length : length new ≡ length old
  pub heap : HaveSameHeap old new
  pub slabs : (start : ℕ) → slabs (tables_of new) start ≡ slabs (tables_of old) start
  pub here : (i : ℕ) → i < length words → word_at new ((tables_of old).root root / 8 + from + i) ≡ slice_index words i
  pub others : (k : ℕ) → ¬ (IsNamedWord old root from (length words) k) → word_at new k ≡ word_at old k

-- by the answer: a refusal changes no word
abbrev pub IsWrittenBy : List ℕ → ℕ → ℕ → List ℕ → List ℕ → Result (Unit {0}) BlockRefusal → Type 0
IsWrittenBy old root from words new (Ok done) = HasWritten old root from words new
IsWrittenBy old root from words new (Err refusal) = new ≡ old

-- A crash within a write, from the old words to the new ones, leaves an exact image with the same numbers and the same heap, in
-- which each word is the old or the new one; and no move entry is open in it.
pub record IsEitherWords (old new image : List ℕ) : Type 0 where
  pub exact : IsExactImage image
  pub bounds : bounds_of image ≡ bounds_of old
  pub heap : HaveSameHeap old image
  pub each : (k : ℕ) → (word_at image k ≡ word_at old k) ⊎ (word_at image k ≡ word_at new k)
  pub still : HasNoMove (tables_of image).open_entry

-- a view

-- these are all words of the root's block
pub record AreWordsOf (words : List ℕ) (root : ℕ) (view : List ℕ) : Type 0 where
  pub range : Range
  pub named : heap (tables_of words) root ≡ Some range
  pub is : view ≡ words_at words (range.at / 8) (range.size / 8)
  -- so many they are
  pub count : length view ≡ range.size / 8

-- what is lent of a root's block: nothing where there is no such root, or it names no block
abbrev pub IsViewOf : List ℕ → ℕ → Result (Bor (List ℕ)) BlockRefusal → Type 0
IsViewOf words root (Ok view) = AreWordsOf words root view.now
IsViewOf words root (Err NoRoot) = (bounds_of words).roots ≤ root
IsViewOf words root (Err Empty) = (root < (bounds_of words).roots) × (heap (tables_of words) root ≡ None)
IsViewOf words root (Err OutOfRange) = ⊥

-- for the functions below

-- a root has this block, whose words lie inside
pub record HasBlockAt (words : List ℕ) (root : ℕ) (range : Range) : Type 0 where
  pub rooted : root < (bounds_of words).roots
  pub named : heap (tables_of words) root ≡ Some range
  pub place : (tables_of words).root root ≡ range.at
  pub aligned : range.at % 8 ≡ 0
  pub inside : range.at + range.size ≤ 8 * length words
  pub few : length words ≤ 8388608

abbrev pub range_of_block : Block → Range
range_of_block block = record { at = block.at; size = block.size }

-- the block of a root, or why there is none
abbrev pub IsBlockPlan : List ℕ → ℕ → Result Block BlockRefusal → Type 0
IsBlockPlan words root (Ok block) = HasBlockAt words root (range_of_block block)
IsBlockPlan words root (Err NoRoot) = (bounds_of words).roots ≤ root
IsBlockPlan words root (Err Empty) = (root < (bounds_of words).roots) × (heap (tables_of words) root ≡ None)
IsBlockPlan words root (Err OutOfRange) = ⊥

-- so many words of a root's block from an index on begin at this byte, all of them words of the block
pub record IsWritable (words : List ℕ) (root from count at : ℕ) : Type 0 where
  pub range : Range
  pub block : HasBlockAt words root range
  pub within : from + count ≤ range.size / 8
  pub begins : at ≡ range.at + 8 * from

-- so many words from an index on are more than the root's block has
pub record IsTooMany (words : List ℕ) (root from count : ℕ) : Type 0 where
  pub range : Range
  pub block : HasBlockAt words root range
  pub past : range.size / 8 < from + count

-- the byte at which a write of so many words begins, or why there is none
abbrev pub IsWritePlan : List ℕ → ℕ → ℕ → ℕ → Result ℕ BlockRefusal → Type 0
IsWritePlan words root from count (Ok at) = IsWritable words root from count at
IsWritePlan words root from count (Err NoRoot) = (bounds_of words).roots ≤ root
IsWritePlan words root from count (Err Empty) = (root < (bounds_of words).roots) × (heap (tables_of words) root ≡ None)
IsWritePlan words root from count (Err OutOfRange) = IsTooMany words root from count

-- what a write did behind its begin, and that what stands beside the words stays what they say
pub record IsWriteCarried (old new : PmemState) (root from : ℕ) (words : List ℕ) (result : Result (Unit {0}) BlockRefusal) : Type 0 where
  pub carried : IsQuietStep old new (payload_events (words_of old) root from words (write_reply result)) (IsEitherWords (words_of old) (words_of new))
  pub written : IsWrittenBy (words_of old) root from words (words_of new) result
  pub step : IsWriteStep (words_of old) (words_of new) root from words (write_reply result)
  pub arena : (volatile : Volatile) → IsArena old volatile → IsArena new volatile
