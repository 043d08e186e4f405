-- The pairs of an image: a root has one at most, and what keeps it, under whichever root.
use Rattle.std.proofs.Common.{◌≡◌, ℕ, ◌+◌, ◌/◌, ◌<◌, ◌≤◌, List, length, Some, sym, ap, ◌∙◌, arith, ext_get_or}
use Rattle.attach_dict.proofs.Common.{word_at, tables_of, Range, heap, IsWordOf, one_range}
use Rattle.attach_dict.specs.Dict.{head_words, HasSome, HasPair, IsPair}

-- a root with a pair has a block
pub some_of : {words : List ℕ} {root key number : ℕ} {value : List ℕ} → IsPair words root key number value → HasSome words root
some_of pair = record { range = pair.has.range; named = pair.has.named }

-- two pairs of a root are one
pub record IsSamePair (key other number another : ℕ) (value also : List ℕ) : Type 0 where
  pub key_is : key ≡ other
  pub number_is : number ≡ another
  pub value_is : value ≡ also

pub pair_once : (words : List ℕ) (root key other number another : ℕ) (value also : List ℕ) → HasPair words root key number value → HasPair words root other another also → IsSamePair key other number another value also
pair_once words root key other number another value also a b =
    let range : a.range ≡ b.range = one_range a.range b.range (sym a.named ∙ b.named) in
    let count : length value ≡ length also = sym a.count_is ∙ (ap (λ (r : Range). word_at words (r.at / 8 + 2)) range ∙ b.count_is) in
    record {
      key_is = sym a.key_is ∙ (ap (λ (r : Range). word_at words (r.at / 8)) range ∙ b.key_is);
      number_is = sym a.number_is ∙ (ap (λ (r : Range). word_at words (r.at / 8 + 1)) range ∙ b.number_is);
      value_is = ext_get_or 0 value also count (λ i low. sym (a.each i low) ∙ (ap (λ (r : Range). word_at words (r.at / 8 + head_words + i)) range ∙ b.each i (omega (arith, low, count))));
    }

-- a block that keeps its words is the pair that it was, under whichever root
pub pair_kept : (old new : List ℕ) (root other key number : ℕ) (value : List ℕ) (was : HasPair old root key number value) → heap (tables_of new) other ≡ Some was.range → ((k : ℕ) → IsWordOf was.range k → word_at new k ≡ word_at old k) → HasPair new other key number value
pair_kept old new root other key number value was named keeps =
    let room : head_words + length value ≤ was.range.size / 8 = omega (arith, was.wide) in
    let word : (i : ℕ) → i < head_words + length value → IsWordOf was.range (was.range.at / 8 + i) = λ i low. record { low = omega arith; high = omega (arith, low, room) } in
    record {
      range = was.range;
      named = named;
      few = was.few;
      wide = was.wide;
      key_is = keeps (was.range.at / 8) (record { low = omega arith; high = omega (arith, room) }) ∙ was.key_is;
      number_is = keeps (was.range.at / 8 + 1) (word 1 (omega arith)) ∙ was.number_is;
      count_is = keeps (was.range.at / 8 + 2) (word 2 (omega arith)) ∙ was.count_is;
      each = λ i low. keeps (was.range.at / 8 + head_words + i) (record { low = omega arith; high = omega (arith, low, room) }) ∙ was.each i low;
    }
