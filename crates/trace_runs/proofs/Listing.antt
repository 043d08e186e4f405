-- The blocks of some roots, one after another.
use Rattle.std.proofs.Common.{◌≡◌, ℕ, zero, suc, ◌+◌, ◌-◌, ◌<◌, ◌≤◌, List, [], ◌∷◌, ◌++◌, Option, Some, None, sym, ap, ◌∙◌, refl, arith, append_assoc}
use Rattle.std.proofs.lemmas.List.{append-nil}
use Rattle.image_tables.specs.Tables.{tables_of}
use Rattle.heap_model.specs.declared.block.Block.{Block}
use Rattle.heap_model.specs.Machine.{Bounds, Range}
use Rattle.heap_check.specs.Heap.{heap}
use Rattle.heap_check.specs.Image.{bounds_of}
use Rattle.heap_check.specs.State.{HaveSameHeap}
use Rattle.trace_runs.specs.Blocks.{listed, blocks_from, blocks_of, blocks_in}

-- the blocks of m roots, and of n roots behind them
blocks_from-split : (h : ℕ → Option Range) (i m n : ℕ) → blocks_from h i (m + n) ≡ blocks_from h i m ++ blocks_from h (i + m) n
blocks_from-split h i zero n =
    let none : 0 + n ≡ n = omega arith in
    let here : i + 0 ≡ i = omega arith in
    rw (none, here) refl
blocks_from-split h i (suc m) n =
    let one : suc m + n ≡ suc (m + n) = omega arith in
    let next : i + suc m ≡ i + 1 + m = omega arith in
    rw (one, next) (ap (λ (bs : List Block). listed i (h i) ++ bs) (blocks_from-split h (i + 1) m n)
    ∙ sym (append_assoc (listed i (h i)) (blocks_from h (i + 1) m) (blocks_from h (i + 1 + m) n)))

-- one root more
pub blocks_from-more : (h : ℕ → Option Range) (from root : ℕ) → from ≤ root →
    blocks_from h from (root + 1 - from) ≡ blocks_from h from (root - from) ++ listed root (h root)
blocks_from-more h from root low =
    let more : root + 1 - from ≡ (root - from) + 1 = omega arith in
    let here : from + (root - from) ≡ root = omega arith in
    ap (λ n. blocks_from h from n) more ∙ blocks_from-split h from (root - from) 1
    ∙ ap (λ r. blocks_from h from (root - from) ++ blocks_from h r 1) here
    ∙ ap (λ (bs : List Block). blocks_from h from (root - from) ++ bs) (append-nil (listed root (h root)))

-- roots that have the same blocks
pub blocks_from-same : (h g : ℕ → Option Range) (i n : ℕ) → ((root : ℕ) → i ≤ root → root < i + n → h root ≡ g root) → blocks_from h i n ≡ blocks_from g i n
blocks_from-same h g i zero same = refl
blocks_from-same h g i (suc n) same =
    ap (λ (o : Option Range). listed i o ++ blocks_from h (i + 1) n) (same i (omega arith) (omega arith))
    ∙ ap (λ (bs : List Block). listed i (g i) ++ bs) (blocks_from-same h g (i + 1) n (λ root low high. same root (omega arith) (omega arith)))

-- two heaps with the same blocks
pub blocks_of-same : (words : List ℕ) (h g : ℕ → Option Range) → ((root : ℕ) → h root ≡ g root) → blocks_of words h ≡ blocks_of words g
blocks_of-same words h g same = blocks_from-same h g 0 (bounds_of words).roots (λ root low high. same root)

-- and in two images with the same numbers
pub blocks_in-same : (words image : List ℕ) → bounds_of image ≡ bounds_of words → HaveSameHeap words image → blocks_in image ≡ blocks_in words
blocks_in-same words image bounds same =
    blocks_of-same image (heap (tables_of image)) (heap (tables_of words)) same.each
    ∙ ap (λ (b : Bounds). blocks_from (heap (tables_of words)) 0 b.roots) bounds

-- the blocks up to a root, and then its own, where it has one
pub one_listed : (h : ℕ → Option Range) (from root : ℕ) (before items : List Block) (block : Block) → from ≤ root → items ≡ before ++ blocks_from h from (root - from) →
    (block.root ≡ root) × (h root ≡ Some (record { at = block.at; size = block.size })) → items ++ block ∷ [] ≡ before ++ blocks_from h from (root + 1 - from)
one_listed h from root before items block low so_far is =
    let here : block ∷ [] ≡ listed root (h root) =
    ap (λ r. let b : Block = record { root = r; at = block.at; size = block.size } in b ∷ []) is.0 ∙ ap (λ (o : Option Range). listed root o) (sym is.1) in
    ap (λ (bs : List Block). bs ++ block ∷ []) so_far
    ∙ append_assoc before (blocks_from h from (root - from)) (block ∷ [])
    ∙ ap (λ (bs : List Block). before ++ (blocks_from h from (root - from) ++ bs)) here
    ∙ ap (λ (bs : List Block). before ++ bs) (sym (blocks_from-more h from root low))

-- and nothing, where it has none
pub none_listed : (h : ℕ → Option Range) (from root : ℕ) (before items : List Block) → from ≤ root → items ≡ before ++ blocks_from h from (root - from) →
    h root ≡ None → items ≡ before ++ blocks_from h from (root + 1 - from)
none_listed h from root before items low so_far is =
    so_far
    ∙ ap (λ (bs : List Block). before ++ bs) (sym (append-nil (blocks_from h from (root - from))))
    ∙ ap (λ (o : Option Range). before ++ (blocks_from h from (root - from) ++ listed root o)) (sym is)
    ∙ ap (λ (bs : List Block). before ++ bs) (sym (blocks_from-more h from root low))
