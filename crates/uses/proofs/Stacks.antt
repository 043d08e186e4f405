-- Stacks: what leaves one as it is, what it is once a record came or went, and that an image is the stack of one list only.
use Rattle.std.proofs.Common.{◌≡◌, ◌≢◌, ℕ, ◌+◌, ◌/◌, ◌<◌, ◌≤◌, List, [], ◌∷◌, ◌++◌, length, take, Some, None, refl, sym, ap, ◌∙◌, subst, arith, ⊎_elim, ext_get_or, below_more, length-take-le, get_or-take}
use Rattle.uses.proofs.Common.{cases_lt, get_or_append_left, get_or_push, length_push, take_more, take_all, word_at, tables_of, Range, heap, IsWordOf, KeepsBlocks}
use Rattle.uses.specs.Stack.{stage, record_at, HasNone, HasRecord, IsStack, LawOfStacks}

-- a word of a record
pub word_within : (range : Range) (i : ℕ) → range.size ≡ 64 → i < 8 → IsWordOf range (range.at / 8 + i)
word_within range i size below = record { low = omega arith; high = omega (arith, size, below) }

-- a record that keeps its words, under whichever root
record_kept : (old image : List ℕ) (root other : ℕ) (contents : List ℕ) (was : HasRecord old root contents) → heap (tables_of image) other ≡ Some was.range → ((k : ℕ) → IsWordOf was.range k → word_at image k ≡ word_at old k) →
    HasRecord image other contents
record_kept old image root other contents was named keeps = record {
  range = was.range;
  named = named;
  size = was.size;
  count = was.count;
  each = λ i below. keeps (was.range.at / 8 + i) (word_within was.range i was.size below) ∙ was.each i below;
}

-- so it is where every block has its words
block_kept : (old image : List ℕ) (root other : ℕ) (contents : List ℕ) (was : HasRecord old root contents) → heap (tables_of image) other ≡ Some was.range → KeepsBlocks old image → HasRecord image other contents
block_kept old image root other contents was named keeps = record_kept old image root other contents was named (λ k word. keeps.each root other was.range k was.named named word)

-- the blocks of the roots below the stage are the same, with their words
pub record KeepsBelow (old image : List ℕ) : Type 0 where
  pub blocks : (root : ℕ) → root < stage → heap (tables_of image) root ≡ heap (tables_of old) root
  pub words : (root k : ℕ) (range : Range) → root < stage → heap (tables_of old) root ≡ Some range → IsWordOf range k → word_at image k ≡ word_at old k

-- so it is where every block has its words
pub keeps_below : (old image : List ℕ) → ((root : ℕ) → root < stage → heap (tables_of image) root ≡ heap (tables_of old) root) → KeepsBlocks old image → KeepsBelow old image
keeps_below old image same keeps = record {
  blocks = same;
  words = λ root k range low named word. keeps.each root root range k named (same root low ∙ named) word;
}

-- then it is the same stack
pub stack_kept : (old image : List ℕ) (records : List (List ℕ)) → IsStack old records → KeepsBelow old image → IsStack image records
stack_kept old image records was same = record {
  few = was.few;
  each = λ i below.
      let low : i < stage = omega (arith, was.few, below) in
      record_kept old image i i (record_at records i) (was.each i below) (same.blocks i low ∙ (was.each i below).named) (λ k word. same.words i k (was.each i below).range low (was.each i below).named word);
  none = λ root low high. same.blocks root high ∙ was.none root low high;
}

-- the block of the stage came to the root behind the last record
pub stack_more : (old image : List ℕ) (records : List (List ℕ)) (contents : List ℕ) → IsStack old records → length records < stage → HasRecord old stage contents → heap (tables_of image) (length records) ≡ heap (tables_of old) stage →
    ((other : ℕ) → other ≢ length records → other < stage → heap (tables_of image) other ≡ heap (tables_of old) other) → KeepsBlocks old image → IsStack image (records ++ contents ∷ [])
stack_more old image records contents was room ready here others keeps =
    let more : length (records ++ contents ∷ []) ≡ length records + 1 = length_push records contents in
    let P : ℕ → Type 0 = λ i. HasRecord image i (record_at (records ++ contents ∷ []) i) in
    let last : P (length records) = subst (λ (c : List ℕ). HasRecord image (length records) c) (sym (get_or_push records contents [] (length records) refl))
    (block_kept old image stage (length records) contents ready (here ∙ ready.named) keeps) in
    let below : (i : ℕ) → i < length records → P i = λ i low. subst (λ (c : List ℕ). HasRecord image i c) (sym (get_or_append_left records (contents ∷ []) [] i low))
    (block_kept old image i i (record_at records i) (was.each i low) (others i (λ is. omega (arith, is, low)) (omega (arith, low, room)) ∙ (was.each i low).named) keeps) in
    record {
      few = omega (arith, more, room);
      each = λ i low. below_more P (length records) below last i (omega (arith, more, low));
      none = λ root low high. others root (λ is. omega (arith, is, low, more)) high ∙ was.none root (omega (arith, low, more)) high;
    }

-- the block of the last record went
pub stack_less : (old image : List ℕ) (records : List (List ℕ)) (n : ℕ) → IsStack old records → length records ≡ n + 1 → HasNone image n → ((other : ℕ) → other ≢ n → heap (tables_of image) other ≡ heap (tables_of old) other) → KeepsBlocks old image →
    IsStack image (take n records)
stack_less old image records n was count gone others keeps =
    let less : length (take n records) ≡ n = length-take-le n records (omega (arith, count)) in
    record {
      few = omega (arith, less, was.few, count);
      each = λ i low.
          let below : i < n = omega (arith, low, less) in
          let kept : HasRecord image i (record_at records i) = block_kept old image i i (record_at records i) (was.each i (omega (arith, below, count))) (others i (λ is. omega (arith, is, below)) ∙ (was.each i (omega (arith, below, count))).named) keeps in
          subst (λ (c : List ℕ). HasRecord image i c) (sym (get_or-take n records i [] below)) kept;
      none = λ root low high. ⊎_elim
          (λ (here : root < n + 1). let is : root ≡ n = omega (arith, here, low, less) in subst (λ (r : ℕ). HasNone image r) (sym is) gone)
          (λ (past : n + 1 ≤ root). others root (λ is. omega (arith, is, past)) ∙ was.none root (omega (arith, past, count)) high)
          (cases_lt root (n + 1));
    }

-- the records are those that stay and the last
pub records_less : (records : List (List ℕ)) (n : ℕ) → length records ≡ n + 1 → records ≡ take n records ++ record_at records n ∷ []
records_less records n count = sym (take_all (n + 1) records (omega (arith, count))) ∙ take_more records n [] (omega (arith, count))

-- one list

-- a root has one record
pub record_once : (words : List ℕ) (root : ℕ) (one other : List ℕ) → HasRecord words root one → HasRecord words root other → one ≡ other
record_once words root one other a b =
    let same : Some a.range ≡ Some b.range = sym a.named ∙ b.named in
    let range : a.range ≡ b.range = cc same in
    ext_get_or 0 one other (a.count ∙ sym b.count) (λ i low.
    let below : i < 8 = omega (arith, low, a.count) in
    sym (a.each i below) ∙ (ap (λ (r : Range). word_at words (r.at / 8 + i)) range ∙ b.each i below))

-- neither list is longer
not_longer : (words : List ℕ) (records others : List (List ℕ)) → IsStack words records → IsStack words others → length others ≤ length records
not_longer words records others a b = ⊎_elim
    (λ (less : length records < length others).
    let named : heap (tables_of words) (length records) ≡ Some (b.each (length records) less).range = (b.each (length records) less).named in
    let none : heap (tables_of words) (length records) ≡ None = a.none (length records) (omega arith) (omega (arith, less, b.few)) in
    absurd (cc (named, none)))
    (λ (from : length others ≤ length records). from)
    (cases_lt (length records) (length others))

pub law_of_stacks : LawOfStacks
law_of_stacks words records others a b =
    let count : length records ≡ length others = omega (arith, not_longer words records others a b, not_longer words others records b a) in
    ext_get_or [] records others count (λ i low. record_once words i (record_at records i) (record_at others i) (a.each i low) (b.each i (omega (arith, low, count))))
