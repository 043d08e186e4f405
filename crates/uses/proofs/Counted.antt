-- The records that a count of roots stands for.
use Rattle.std.proofs.Common.{◌≡◌, ◌↔◌, ◌==◌, IsTrue, ℕ, zero, suc, ◌+◌, ◌/◌, ◌<◌, ◌≤◌, List, [], length, slice_index, Option, refl, sym, ap, ◌∙◌, subst, arith, ⊎_elim}
use Rattle.uses.proofs.Common.{cases_lt, get_or_append_left, get_or_push, length_push, word_at, tables_of, Range, heap}
use Rattle.uses.specs.Stack.{stage, record_at, HasNone, HasRecord, IsStack, HoldsStack, words_from, contents_of, records_in}
use Rattle.uses.specs.Steps.{HasRecordBlock, AreLeading, AreNone}
use Rattle.uses.proofs.Stacks.{law_of_stacks}

length-words_from : (words : List ℕ) (from n : ℕ) → length (words_from words from n) ≡ n
unfolding words_from
length-words_from words from zero = refl
length-words_from words from (suc n) = ap suc (length-words_from words (from + 1) n)

at-words_from : (words : List ℕ) (from n i : ℕ) → i < n → word_at words (from + i) ≡ slice_index (words_from words from n) i
unfolding words_from
at-words_from words from zero i low = absurd (omega (arith, low))
at-words_from words from (suc n) zero low = ap (word_at words) (omega arith)
at-words_from words from (suc n) (suc i) low = ap (word_at words) (omega arith) ∙ at-words_from words (from + 1) n i (omega (arith, low))

-- the first words of a block of 64 bytes are a record
contents_record : (words : List ℕ) (root : ℕ) → HasRecordBlock words root → HasRecord words root (contents_of words (heap (tables_of words) root))
unfolding contents_of
contents_record words root block = record {
  range = block.range;
  named = block.named;
  size = block.size;
  count = ap (λ (h : Option Range). length (contents_of words h)) block.named ∙ length-words_from words (block.range.at / 8) 8;
  each = λ i low. at-words_from words (block.range.at / 8) 8 i low ∙ ap (λ (h : Option Range). slice_index (contents_of words h) i) (sym block.named);
}

pub length-records_in : (words : List ℕ) (n : ℕ) → length (records_in words n) ≡ n
unfolding records_in
length-records_in words zero = refl
length-records_in words (suc n) =
    length_push (records_in words n) (contents_of words (heap (tables_of words) n)) ∙ omega (arith, length-records_in words n)

at-records_in : (words : List ℕ) (n i : ℕ) → i < n → record_at (records_in words n) i ≡ contents_of words (heap (tables_of words) i)
unfolding records_in
at-records_in words zero i low = absurd (omega (arith, low))
at-records_in words (suc n) i low = ⊎_elim
    (λ (below : i < n). get_or_append_left (records_in words n) _ [] i (omega (arith, below, length-records_in words n)) ∙ at-records_in words n i below)
    (λ (from : n ≤ i).
    let is : n ≡ i = omega (arith, from, low) in
    get_or_push (records_in words n) (contents_of words (heap (tables_of words) n)) [] i (length-records_in words n ∙ is) ∙ ap (λ (k : ℕ). contents_of words (heap (tables_of words) k)) is)
    (cases_lt i n)

-- blocks of 64 bytes at the first roots, and none behind them
stack_of : (words : List ℕ) (n : ℕ) → n ≤ stage → ((i : ℕ) → i < n → HasRecordBlock words i) → ((root : ℕ) → n ≤ root → root < stage → HasNone words root) → IsStack words (records_in words n)
stack_of words n few blocks none =
    let count : length (records_in words n) ≡ n = length-records_in words n in
    record {
      few = omega (arith, count, few);
      each = λ i low.
          let below : i < n = omega (arith, low, count) in
          subst (λ (c : List ℕ). HasRecord words i c) (sym (at-records_in words n i below)) (contents_record words i (blocks i below));
      none = λ root low high. none root (omega (arith, low, count)) high;
    }

pub counted_stack : (words : List ℕ) (n : ℕ) → AreLeading words n → AreNone words n → IsStack words (records_in words n)
counted_stack words n leading none = stack_of words n leading.few leading.each none.each

-- a stack has the records that its length counts
pub counted_same : (words : List ℕ) (records : List (List ℕ)) (n : ℕ) → IsStack words records → length records ≡ n → records_in words n ≡ records
counted_same words records n is count =
    let again : IsStack words (records_in words n) = stack_of words n (omega (arith, count, is.few))
    (λ i low. let r : HasRecord words i (record_at records i) = is.each i (omega (arith, low, count)) in record { range = r.range; named = r.named; size = r.size })
    (λ root low high. is.none root (omega (arith, low, count)) high) in
    law_of_stacks words (records_in words n) records again is

-- no root
pub counted_none : (words : List ℕ) (n : ℕ) → n ≡ 0 → records_in words n ≡ []
unfolding records_in
counted_none words n is = ap (records_in words) is

none_counted : (words : List ℕ) (n : ℕ) → records_in words n ≡ [] → n ≡ 0
none_counted words n is = sym (length-records_in words n) ∙ ap (λ (records : List (List ℕ)). length records) is

pub counted_empty : (words : List ℕ) (n : ℕ) → IsTrue (n == 0) ↔ (records_in words n ≡ [])
counted_empty words n = (λ zero. counted_none words n (grind (arith, zero)), λ none. grind (arith, none_counted words n none))

-- where other roots name blocks there is no stack
module _ (words : List ℕ) (n : ℕ) (leading : AreLeading words n) (holds : HoldsStack words) where
  at_most : length holds.records ≤ n
  at_most = ⊎_elim
      (λ (less : n < length holds.records).
      let r : HasRecord words n (record_at holds.records n) = holds.stack.each n less in
      absurd (leading.last (omega (arith, less, holds.stack.few)) (record { range = r.range; named = r.named; size = r.size })))
      (λ (from : length holds.records ≤ n). from)
      (cases_lt n (length holds.records))

  pub none_else : AreNone words n
  none_else = record { each = λ root low high. holds.stack.none root (omega (arith, low, at_most)) high }
