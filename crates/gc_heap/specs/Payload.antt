-- The words of a root's block: what writing them is on the words of an arena, what a crash within it leaves, and what a view lends.
use Rattle.std.specs.Prelude.{◌≡◌, ◌⊎◌, ℕ, ◌+◌, ◌/◌, ◌<◌, ◌≤◌, List, [], length, slice_index, Result, Ok, Err, Some, None}
use Rattle.std.specs.Borrow.{Bor}
use Rattle.pmem_lines.specs.Words.{word_at, words_at}
use Rattle.pmem_lines.specs.declared.event.Event.{Event}
use Rattle.pmem_lines.specs.Pmem.{words_of}
use Rattle.heap_model.specs.declared.call.Reply.{Reply}
use Rattle.heap_model.specs.declared.call.Reply.TheVariants as replies
use Rattle.heap_model.specs.Machine.{Range, Machine}
use Rattle.heap_check.specs.Image.{bounds_of}
use Rattle.arena_core.specs.declared.answer.BlockRefusal.{BlockRefusal}
use Rattle.arena_core.specs.declared.answer.BlockRefusal.TheVariants.{NoRoot, Empty, OutOfRange}
use Rattle.arena_core.specs.Answer.{write_reply}
use Rattle.arena_core.specs.Events.{write_events}
use Rattle.arena_core.specs.Payload.{IsWriteOf}
use Rattle.gc_check.specs.Heap.{gc_tables}
use Rattle.gc_check.specs.Image.{IsGcExactImage}
use Rattle.gc_check.specs.State.{gc_blocks, gc_slabs, HasGcState, HaveSameGcHeap}
use Rattle.gc_heap.specs.Arena.{GcState}
use Rattle.gc_heap.specs.Answered.{IsOneGcCall}

-- word k is one of so many of a root's block, from an index on
pub record IsGcNamedWord (words : List ℕ) (root from count k : ℕ) : Type 0 where
  pub low : (gc_tables words).root root / 8 + from ≤ k
  pub high : k < (gc_tables words).root root / 8 + from + count

-- the words of the root's block from an index on are these, and every other word, the heap and the slabs are as before
pub record HasGcWritten (old : List ℕ) (root from : ℕ) (words new : List ℕ) : Type 0 where
  pub same_length : length new ≡ length old
  pub heap : HaveSameGcHeap old new
  pub slabs : (start : ℕ) → gc_slabs new start ≡ gc_slabs old start
  pub here : (i : ℕ) → i < length words → word_at new ((gc_tables old).root root / 8 + from + i) ≡ slice_index words i
  pub others : (k : ℕ) → ¬ (IsGcNamedWord old root from (length words) k) → word_at new k ≡ word_at old k

-- by the answer: a refusal changes no word
abbrev pub IsGcWrittenBy : List ℕ → ℕ → ℕ → List ℕ → List ℕ → Result (Unit {0}) BlockRefusal → Type 0
IsGcWrittenBy old root from words new (Ok done) = HasGcWritten old root from words new
IsGcWrittenBy old root from words new (Err refusal) = new ≡ old

-- A crash within a write, from the old words to the new ones, leaves an exact image with the same numbers and the same heap, in
-- which each word is the old or the new one.
pub record IsEitherGcWords (old new image : List ℕ) : Type 0 where
  pub exact : IsGcExactImage image
  pub bounds : bounds_of image ≡ bounds_of old
  pub heap : HaveSameGcHeap old image
  pub each : (k : ℕ) → (word_at image k ≡ word_at old k) ⊎ (word_at image k ≡ word_at new k)

-- each state that the old words have leads by such a write to one that the new words have
pub record IsGcWriteStep (old new : List ℕ) (root from : ℕ) (words : List ℕ) (reply : Reply) : Type 0 where
  pub bounds : bounds_of new ≡ bounds_of old
  pub each : (m : Machine) → HasGcState old m → (next : Machine) × IsWriteOf (bounds_of old) m root from words reply next × HasGcState new next

-- the events of a write with this reply, of an arena of these words: a refusal has none
abbrev pub gc_payload_events : List ℕ → ℕ → ℕ → List ℕ → Reply → List Event
gc_payload_events old root from words replies.Wrote = write_events (gc_tables old) root from words
gc_payload_events old root from words reply = []

-- A write of words into a root's block from an index on was answered. All other words are as before, and a crash leaves each of
-- the written ones old or new.
pub record IsGcWriteAnswered (old new : GcState) (root from : ℕ) (words : List ℕ) (result : Result (Unit {0}) BlockRefusal) : Type 0 where
  pub did : IsOneGcCall old.device new.device (gc_payload_events (words_of old.device) root from words (write_reply result)) (IsEitherGcWords (words_of old.device) (words_of new.device))
  pub step : IsGcWriteStep (words_of old.device) (words_of new.device) root from words (write_reply result)
  pub stacks : new.stacks ≡ old.stacks
  pub written : IsGcWrittenBy (words_of old.device) root from words (words_of new.device) result

-- a view

-- these are all words of the root's block
pub record AreGcWordsOf (words : List ℕ) (root : ℕ) (view : List ℕ) : Type 0 where
  pub range : Range
  pub named : gc_blocks words root ≡ Some range
  pub is : view ≡ words_at words (range.at / 8) (range.size / 8)
  -- so many they are
  pub count : length view ≡ range.size / 8

-- what is lent of a root's block: nothing where there is no such root, or it names no block
abbrev pub IsGcViewOf : List ℕ → ℕ → Result (Bor (List ℕ)) BlockRefusal → Type 0
IsGcViewOf words root (Ok view) = AreGcWordsOf words root view.now
IsGcViewOf words root (Err NoRoot) = (bounds_of words).roots ≤ root
IsGcViewOf words root (Err Empty) = (root < (bounds_of words).roots) × (gc_blocks words root ≡ None)
IsGcViewOf words root (Err OutOfRange) = ⊥
