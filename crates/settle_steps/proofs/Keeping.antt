-- One step that keeps the heap and the words of blocks behind another: so recovery may be stopped and begun again.
use Rattle.std.proofs.Common.{◌∙◌, ℕ, List}
use Rattle.settle_steps.specs.Settled.{KeepsHeap}

pub KeepsHeap-then : (words between image : List ℕ) → KeepsHeap words between → KeepsHeap between image → KeepsHeap words image
KeepsHeap-then words between image first second = record {
  steady = second.steady;
  bounds = second.bounds ∙ first.bounds;
  heap = record { each = λ root. second.heap.each root ∙ first.heap.each root };
  blocks = record {
    each = λ root other range k was is word.
        let there = first.heap.each root ∙ was in
        second.blocks.each root other range k there is word ∙ first.blocks.each root root range k was there word;
  };
}
