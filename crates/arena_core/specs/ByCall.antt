-- What a call leaves and keeps, by the call: what a crash within it leaves, which words it leaves alone, and what a read
-- tells of the words.
use Rattle.std.specs.Prelude.{◌≡◌, ◌⊎◌, ℕ, ◌+◌, ◌/◌, ◌<◌, List, [], ◌∷◌, Result, Some}
use Rattle.std.specs.Borrow.{Bor}
use Rattle.pmem_lines.specs.Words.{word_at}
use Rattle.image_tables.specs.Tables.{tables_of}
use Rattle.heap_model.specs.declared.call.Call.{Call}
use Rattle.heap_model.specs.declared.call.Call.TheVariants as calls
use Rattle.heap_model.specs.declared.call.Reply.{Reply}
use Rattle.heap_model.specs.declared.call.Reply.TheVariants as replies
use Rattle.heap_model.specs.Machine.{Range}
use Rattle.heap_model.specs.Step.{root_of}
use Rattle.heap_check.specs.Heap.{heap}
use Rattle.heap_check.specs.Image.{bounds_of, IsSteadyImage}
use Rattle.heap_check.specs.State.{IsWordOf, HaveSameHeap, IsEitherHeap}
use Rattle.move_steps.specs.Moves.{IsEitherMoved}
use Rattle.arena_core.specs.declared.answer.BlockRefusal.{BlockRefusal}
use Rattle.arena_core.specs.Answer.{read_reply}
use Rattle.arena_core.specs.Call.{IsStepOfAny}
use Rattle.arena_core.specs.Events.{call_events, line_after}
use Rattle.arena_core.specs.Payload.{payload_events, IsWriteStep, IsNamedWord, IsEitherWords, IsViewOf}

-- crashes

-- what a crash within a call leaves, from the old words to the new ones: of a write each word old or new, of every other call
-- the old heap or the new one, and of a move its entry may be open
abbrev pub IsLeftBy : Call → List ℕ → List ℕ → List ℕ → Type 0
IsLeftBy (calls.Write root index word) old new image = IsEitherWords old new image
IsLeftBy (calls.Move from to) old new image = IsEitherMoved old new to image
IsLeftBy _ old new image = IsEitherHeap old new image

-- what every call has in common: the image is steady with the same numbers, it has the heap from before the call or from after
-- it, and the root that the call speaks of holds its word, so that the word says whether it has a block
pub record IsSteadyLeft (root : ℕ) (old new image : List ℕ) : Type 0 where
  pub steady : IsSteadyImage image
  pub bounds : bounds_of image ≡ bounds_of old
  pub heap : HaveSameHeap old image ⊎ HaveSameHeap new image
  pub held : (tables_of image).root root ≡ (tables_of image).word root

-- whichever the call, a crash within it leaves that
abbrev pub LawOfCrashes : Type 0
LawOfCrashes = (call : Call) (old new image : List ℕ) → IsLeftBy call old new image → IsSteadyLeft (root_of call) old new image

-- words

-- a call writes word k of an arena of these words
abbrev pub IsWordWritten : List ℕ → Call → ℕ → Type 0
IsWordWritten words (calls.Write root index word) k = IsNamedWord words root index 1 k
IsWordWritten words _ k = ⊥

-- each range that is a block of the old heap and of the new one, of whichever root, has its old words, but for the word that
-- the call writes
pub record KeepsUnwritten (call : Call) (old new : List ℕ) : Type 0 where
  pub each : (root other : ℕ) (range : Range) (k : ℕ) → heap (tables_of old) root ≡ Some range → heap (tables_of new) other ≡ Some range → IsWordOf range k → ¬ (IsWordWritten old call k) → word_at new k ≡ word_at old k

-- a root's block has this word at an index
pub record HasWord (words : List ℕ) (root index word : ℕ) : Type 0 where
  pub range : Range
  pub named : heap (tables_of words) root ≡ Some range
  pub within : index < range.size / 8
  pub here : word_at words (range.at / 8 + index) ≡ word

-- a word that a read answers is the one that stands there
abbrev pub IsWordRead : List ℕ → ℕ → ℕ → Reply → Type 0
IsWordRead words root index (replies.Value word) = HasWord words root index word
IsWordRead words root index reply = Unit {0}

-- laws

-- a write of one word is the machine's, with its events, and leaves the write-ahead line
abbrev pub LawOfOneWord : Type 0
LawOfOneWord = (old new : List ℕ) (line root index word : ℕ) (reply : Reply) → IsWriteStep old new root index (word ∷ []) reply →
    IsStepOfAny old new (calls.Write root index word) reply × (payload_events old root index (word ∷ []) reply ≡ call_events old line (calls.Write root index word) reply) × (line_after line reply ≡ line)

-- a word of a view is what the machine reads, which leaves all as it was
abbrev pub LawOfOneRead : Type 0
LawOfOneRead = (words : List ℕ) (line root index : ℕ) (view : Result (Bor (List ℕ)) BlockRefusal) → IsViewOf words root view →
    IsStepOfAny words words (calls.Read root index) (read_reply view index) × IsWordRead words root index (read_reply view index) × (line_after line (read_reply view index) ≡ line)
