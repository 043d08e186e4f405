-- A large extent and its root come and go: the words of the image at each stage.
use Rattle.std.proofs.Common.{◌⊎◌, ◌≡◌, ◌≢◌, ℕ, ◌*◌, ◌<◌, ◌≤◌, List, length, sym, ap, subst, ◌∙◌, arith, ⊎_elim, Some, None}
use Rattle.heap_check.proofs.Common.{AreSlabsInHeap, Tables, tables_of, HasNoMove, put_at-twice, put_at-own, version_in-put_root, heap_word-put_root, extent_at-put_root, tables_put_root, roots_plain, cases_eq, word_at, put_word, length-put_word, layout_of, root_word, heap_word, version_in, Bounds, Range}
use Rattle.heap_check.specs.Sound.{IsSteady, IsExact}
use Rattle.heap_check.proofs.Forms.{bounds_of-put_root, IsFormed-put_root}
use Rattle.heap_check.proofs.Large.{large_block, IsLargeStage, entry_at-none, with_large, IsLargePlace}
use Rattle.heap_check.proofs.LargeSound.{IsLargeEnd, IsSteady-large, IsExact-large}
use Rattle.heap_check.proofs.LargeHeaps.{heap-large_other, heap-large_none, heap-large_some}
use Rattle.heap_check.specs.Image.{bounds_of, IsFormed, IsExactImage, IsSteadyImage}
use Rattle.heap_check.specs.State.{IsWordOf, HaveSameHeap, KeepsBlocks, IsEitherHeap}
use Rattle.heap_check.proofs.Blank.{law_of_steady}
use Rattle.heap_check.proofs.Heaps.{IsClaim-heap}
use Rattle.heap_check.proofs.Within.{IsWithin-claim}
use Rattle.heap_check.specs.Heap.{slabs, heap}

-- The image is as the words are, but that the extent at a start has so many granules, and a root this word.
pub record IsStageOf (words : List ℕ) (root start here word : ℕ) (image : List ℕ) : Type 0 where
  pub formed : IsFormed image
  pub bounds : bounds_of image ≡ bounds_of words
  pub slabs : AreSlabsInHeap image
  pub size : length image ≡ length words
  pub unmoved : HasNoMove (tables_of words).open_entry
  pub tables : tables_of image ≡ with_large (tables_of words) start here root word
  pub heap : (k : ℕ) → heap_word (version_in words) ≤ k → word_at image k ≡ word_at words k

-- the words as they are
pub stage_none : (words : List ℕ) (root start : ℕ) → IsFormed words → AreSlabsInHeap words → HasNoMove (tables_of words).open_entry → IsStageOf words root start ((tables_of words).large start) ((tables_of words).root root) words
stage_none words root start formed slabs unmoved = grind (arith, roots_plain, put_at-own)

-- the heap begins at the same word
pub same_heap_word : (words made : List ℕ) → bounds_of made ≡ bounds_of words → heap_word (version_in made) ≡ heap_word (version_in words)
same_heap_word words made same = ap (λ (b : Bounds). 2048 * b.first) same

-- a root's word is stored
pub stage_root : (words : List ℕ) (root start here word : ℕ) (made : List ℕ) (value : ℕ) → IsStageOf words root start here word made → root < (bounds_of words).roots → root_word root < length words →
    IsStageOf words root start here value (put_word made (root_word root) value)
stage_root words root start here word made value stage below inside =
    let t = tables_of words in
    let new = put_word made (root_word root) value in
    let among : root < (layout_of (version_in made)).roots = subst (λ (b : Bounds). root < b.roots) (sym stage.bounds) below in
    let within : root_word root < length made = omega (arith, inside, stage.size) in
    record {
      formed = IsFormed-put_root made root value stage.formed among within stage.slabs;
      bounds = bounds_of-put_root made root value ∙ stage.bounds;
      slabs = grind (arith, version_in-put_root, extent_at-put_root);
      size = length-put_word made (root_word root) value ∙ stage.size;
      unmoved = stage.unmoved;
      tables = grind (arith, tables_put_root, put_at-twice);
      heap = λ k high. heap_word-put_root made root value k among (omega (arith, high, same_heap_word words made stage.bounds)) ∙ stage.heap k high;
    }

-- no move entry is open in it
pub still_stage : {words : List ℕ} {root start here word : ℕ} {image : List ℕ} → IsStageOf words root start here word image → HasNoMove (tables_of image).open_entry
still_stage {words} {root} {start} {here} {word} {image} stage = subst HasNoMove (sym (ap (λ (t : Tables). t.open_entry) stage.tables)) stage.unmoved

-- what a stage has

module _ {words : List ℕ} {root start count : ℕ} (exact : IsExactImage words) (place : IsLargePlace (bounds_of words) (tables_of words) root start count) where
  pub steady_stage : (here word : ℕ) (image : List ℕ) → IsLargeStage start count here word → IsStageOf words root start here word image → IsSteadyImage image
  steady_stage here word image is stage = record {
    formed = stage.formed;
    steady = subst (λ b. IsSteady b (tables_of image)) (sym stage.bounds)
        (subst (λ t. IsSteady (bounds_of words) t) (sym stage.tables) (IsSteady-large place here word is (law_of_steady (bounds_of words) (tables_of words) exact.exact)));
  }

  pub exact_stage : (here word : ℕ) (image : List ℕ) → IsLargeEnd start count here word → IsStageOf words root start here word image → IsExactImage image
  exact_stage here word image is stage = record {
    formed = stage.formed;
    exact = subst (λ b. IsExact b (tables_of image)) (sym stage.bounds)
        (subst (λ t. IsExact (bounds_of words) t) (sym stage.tables) (IsExact-large place here word is exact.exact));
  }

  -- the heap

  pub others_stage : (here word : ℕ) (image : List ℕ) → IsStageOf words root start here word image → (other : ℕ) → other ≢ root → heap (tables_of image) other ≡ heap (tables_of words) other
  others_stage here word image stage other differ = ap (λ (t : Tables). heap t other) stage.tables ∙ heap-large_other place here word other differ

  pub none_stage : (here : ℕ) (image : List ℕ) → IsStageOf words root start here 0 image → heap (tables_of image) root ≡ None
  none_stage here image stage = ap (λ (t : Tables). heap t root) stage.tables ∙ heap-large_none place here

  pub some_stage : (image : List ℕ) → IsStageOf words root start count (16384 * start) image → heap (tables_of image) root ≡ Some (large_block start count)
  some_stage image stage = ap (λ (t : Tables). heap t root) stage.tables ∙ heap-large_some place

  pub slabs_stage : (here word : ℕ) (image : List ℕ) → IsStageOf words root start here word image → (other : ℕ) → slabs (tables_of image) other ≡ slabs (tables_of words) other
  slabs_stage here word image stage other = ap (λ (t : Tables). slabs t other) stage.tables

  -- two images in which the root has no block
  pub same_none : (here there : ℕ) (one other : List ℕ) → IsStageOf words root start here 0 one → IsStageOf words root start there 0 other → HaveSameHeap one other
  same_none here there one other first second = record {
    each = λ r. ⊎_elim
        (λ (same : r ≡ root). ap (heap (tables_of other)) same ∙ none_stage there other second ∙ sym (none_stage here one first) ∙ ap (heap (tables_of one)) (sym same))
        (λ (differ : r ≢ root). others_stage there 0 other second r differ ∙ sym (others_stage here 0 one first r differ))
        (cases_eq r root);
  }

  -- two images in which it has the block
  pub same_some : (one other : List ℕ) → IsStageOf words root start count (16384 * start) one → IsStageOf words root start count (16384 * start) other → HaveSameHeap one other
  same_some one other first second = grind arith

  -- a block of the words keeps its words
  pub keeps_stage : (here word : ℕ) (image : List ℕ) → IsStageOf words root start here word image → KeepsBlocks words image
  keeps_stage here word image stage = record { each = λ r other range k was _ lies. stage.heap k (block_in_heap r range k was lies) }
    where
      block_in_heap : (r : ℕ) (range : Range) (k : ℕ) → heap (tables_of words) r ≡ Some range → IsWordOf range k → heap_word (version_in words) ≤ k
      block_in_heap r range k was lies =
          let within = IsWithin-claim place.sound r range (entry_at-none place r) (IsClaim-heap (tables_of words) r range (entry_at-none place r) was) in
          grind arith

  -- so a crash that leaves a stage, with the heap from before or with the new one, leaves one of the two
  pub either_stage : (new : List ℕ) (here word : ℕ) (image : List ℕ) → IsLargeStage start count here word → HaveSameHeap words image ⊎ HaveSameHeap new image → IsStageOf words root start here word image → IsEitherHeap words new image
  either_stage new here word image is heaps stage = record { steady = steady_stage here word image is stage; bounds = stage.bounds; heap = heaps; words = keeps_stage here word image stage; still = still_stage stage }
