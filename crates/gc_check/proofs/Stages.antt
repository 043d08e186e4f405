-- What a crash leaves of two steps in a row, of which one alone changes the heap.
use Rattle.std.proofs.Common.{◌≡◌, ℕ, List, sym, ◌∙◌, inl, inr, ⊎_elim}
use Rattle.heap_check.specs.Image.{bounds_of}
use Rattle.gc_check.specs.State.{HaveSameGcHeap, KeepsGcBlocks, IsEitherGcHeap}

-- the same the other way, and by a third image

pub same_back : (words image : List ℕ) → HaveSameGcHeap words image → HaveSameGcHeap image words
same_back words image same = record { each = λ root. sym (same.each root) }

pub same_then : (words made image : List ℕ) → HaveSameGcHeap words made → HaveSameGcHeap made image → HaveSameGcHeap words image
same_then words made image first second = record { each = λ root. second.each root ∙ first.each root }

-- blocks that keep their words in two steps, where the heap of the image is that of the words between
pub keeps_then : (words made image : List ℕ) → HaveSameGcHeap made image → KeepsGcBlocks words made → KeepsGcBlocks made image → KeepsGcBlocks words image
keeps_then words made image same first second = record {
  each = λ root other range k was is word.
      let between = sym (same.each other) ∙ is in
      second.each other other range k between is word ∙ first.each root other range k was between word;
}

-- where it is that of the words before
pub keeps_first : (words made image : List ℕ) → HaveSameGcHeap words made → KeepsGcBlocks words made → KeepsGcBlocks made image → KeepsGcBlocks words image
keeps_first words made image same first second = record {
  each = λ root other range k was is word.
      let between = same.each root ∙ was in
      second.each root other range k between is word ∙ first.each root root range k was between word;
}

-- the first step leaves the heap

pub either_before : (words made new image : List ℕ) → HaveSameGcHeap words made → IsEitherGcHeap words made image → IsEitherGcHeap words new image
either_before words made new image same left = record {
  sound = left.sound;
  bounds = left.bounds;
  heap = inl (⊎_elim (λ before. before) (λ behind. same_then words made image same behind) left.heap);
  words = left.words;
}

pub either_behind : (words made new image : List ℕ) → bounds_of made ≡ bounds_of words → HaveSameGcHeap words made → KeepsGcBlocks words made → IsEitherGcHeap made new image → IsEitherGcHeap words new image
either_behind words made new image bounds same keeps left = record {
  sound = left.sound;
  bounds = left.bounds ∙ bounds;
  heap = ⊎_elim (λ before. inl (same_then words made image same before)) (λ behind. inr behind) left.heap;
  words = keeps_first words made image same keeps left.words;
}

-- the second step leaves it

pub either_first : (words made new image : List ℕ) → HaveSameGcHeap made new → IsEitherGcHeap words made image → IsEitherGcHeap words new image
either_first words made new image same left = record {
  sound = left.sound;
  bounds = left.bounds;
  heap = ⊎_elim (λ before. inl before) (λ behind. inr (same_then new made image (same_back made new same) behind)) left.heap;
  words = left.words;
}

pub either_second : (words made new image : List ℕ) → bounds_of made ≡ bounds_of words → HaveSameGcHeap made new → KeepsGcBlocks words made → IsEitherGcHeap made new image → IsEitherGcHeap words new image
either_second words made new image bounds same keeps left =
    let here : HaveSameGcHeap made image = ⊎_elim (λ before. before) (λ behind. same_then made new image same behind) left.heap in
    record {
      sound = left.sound;
      bounds = left.bounds ∙ bounds;
      heap = inr (same_then new made image (same_back made new same) here);
      words = keeps_then words made image here keeps left.words;
    }
