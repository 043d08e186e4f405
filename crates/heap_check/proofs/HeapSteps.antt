-- Two steps in a row, of which one leaves the heap: what a crash leaves of both, and which words stay.
use Rattle.std.proofs.Common.{◌≡◌, ◌∙◌, refl, ◌⊎◌, ℕ, List, ◌++◌, inl, inr, ⊎_elim, arith}
use Rattle.pmem_lines.specs.declared.event.Event.{Event}
use Rattle.pmem_lines.specs.Events.{reading}
use Rattle.pmem_lines.specs.Pmem.{PmemState, words_of}
use Rattle.pmem_lines.specs.Steps.{IsQuietStep}
use Rattle.pmem_lines.proofs.Steps.{step_then, step_end}
use Rattle.heap_check.specs.Heap.{heap}
use Rattle.heap_check.specs.State.{HaveSameHeap, KeepsBlocks, IsEitherHeap}
use Rattle.heap_check.specs.Image.{bounds_of, IsExactImage}

-- two steps, of which one leaves the heap
module _ (old mid new : List ℕ) (which : HaveSameHeap old mid ⊎ HaveSameHeap mid new) where
  -- a block from before that an image of the second step has keeps its words
  keeps_then : (image : List ℕ) → HaveSameHeap mid image ⊎ HaveSameHeap new image → KeepsBlocks old mid → KeepsBlocks mid image → KeepsBlocks old image
  keeps_then image left first second = grind arith

  -- so it does at the end
  pub keeps_both : KeepsBlocks old mid → KeepsBlocks mid new → KeepsBlocks old new
  keeps_both first second = keeps_then new (inr (record { each = λ root. refl })) first second

  -- the heap from between is the one from before or from after
  ends : (image : List ℕ) → HaveSameHeap mid image → HaveSameHeap old image ⊎ HaveSameHeap new image
  ends image there = grind arith

  either_first : (image : List ℕ) → IsEitherHeap old mid image → IsEitherHeap old new image
  either_first image left = record {
    steady = left.steady;
    bounds = left.bounds;
    heap = ⊎_elim (λ (before : HaveSameHeap old image). inl before) (λ (there : HaveSameHeap mid image). ends image there) left.heap;
    words = left.words;
    still = left.still;
  }

  either_second : bounds_of mid ≡ bounds_of old → KeepsBlocks old mid → (image : List ℕ) → IsEitherHeap mid new image → IsEitherHeap old new image
  either_second same keeps image left = record {
    steady = left.steady;
    bounds = left.bounds ∙ same;
    heap = ⊎_elim (λ (there : HaveSameHeap mid image). ends image there) (λ (after : HaveSameHeap new image). inr after) left.heap;
    words = keeps_then image left.heap keeps left.words;
    still = left.still;
  }

-- the steps themselves: the words between them are those that the first leaves
pub steps_then : (old new : List ℕ) {s t u : PmemState} {e : List Event} → HaveSameHeap old (words_of t) ⊎ HaveSameHeap (words_of t) new → (f : List ℕ → List Event) → KeepsBlocks old (words_of t) →
    IsQuietStep s t e (IsEitherHeap old (words_of t)) → IsQuietStep t u (f (words_of t)) (IsEitherHeap (words_of t) new) → IsQuietStep s u (e ++ f (reading (words_of s) e)) (IsEitherHeap old new)
steps_then old new {t = t} which f keeps first second =
    step_then (IsEitherHeap old new) f first second (either_first old (words_of t) new which) (either_second old (words_of t) new which (step_end first).bounds keeps)

-- nothing was done: the heap is the one from before
pub same_heap : (words new : List ℕ) → IsExactImage words → IsEitherHeap words new words
same_heap words new exact = grind arith
