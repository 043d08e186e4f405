-- The lowest number of words from a number on, found word by word, and whether words have one.
use Rattle.std.proofs.Common.{◌≡◌, ℕ, ◌+◌, ◌-◌, ◌*◌, ◌/◌, ◌%◌, ◌^◌, ◌<◌, ◌≤◌, min, ⊎_elim, eqb, false, List, get_or, sym, ap, ◌∙◌, arith, bit_and, bit_or, w64}
use Rattle.std.specs.Int.{bit_at, trailing_zeros}
use Rattle.std.proofs.lemmas.Bool.{cases_lt, eqb-false}
use Rattle.std.proofs.lemmas.Nat.{le_or_l, le_or_r}
use Rattle.std.proofs.lemmas.Nat.Bits.{same_from_bits, bit_at_above, bit_at-zero, bit_at-lt, bit_at_and, ones_shl, bit_at_mask_inside, bit_at_mask_below, bit_at-trailing_zeros}
use Rattle.bit_words.specs.Numbers.{has, HasNoneIn, IsLeastIn}
use Rattle.bit_words.proofs.Bits.{has_in_word, none_more}

-- `word & MAX << k`
abbrev pub from_bit : ℕ → ℕ → ℕ
from_bit word k = bit_and word (18446744073709551615 * 2 ^ k % 18446744073709551616)

-- it has the bits from k on
from_bit-inside : (word k b : ℕ) → k ≤ b → b < 64 → bit_at (from_bit word k) b ≡ bit_at word b
from_bit-inside word k b low inside =
    let mask = 18446744073709551615 * 2 ^ k % 18446744073709551616 in
    let one : bit_at mask b ≡ 1 = ap (λ m. bit_at m b) (ones_shl 64 k (omega arith)) ∙ bit_at_mask_inside k 64 b low inside in
    bit_at_and word mask b ∙ ap (λ m. min (bit_at word b) m) one ∙ omega (arith, bit_at-lt word b)

-- and none below
from_bit-below : (word k b : ℕ) → b < k → k < 64 → bit_at (from_bit word k) b ≡ 0
from_bit-below word k b below inside =
    let mask = 18446744073709551615 * 2 ^ k % 18446744073709551616 in
    let none : bit_at mask b ≡ 0 = ap (λ m. bit_at m b) (ones_shl 64 k (omega arith)) ∙ bit_at_mask_below k 64 b below in
    bit_at_and word mask b ∙ ap (λ m. min (bit_at word b) m) none ∙ omega arith

module _ (words : List ℕ) (from word : ℕ) (is : word ≡ get_or words (from / 64) 0) where
  -- a number from `from` on by its bit
  bit_of : (k : ℕ) → from ≤ k → k / 64 ≡ from / 64 → has words k ≡ eqb (bit_at (from_bit word (from % 64)) (k % 64)) 1
  bit_of k low same =
      has_in_word words k word (ap (λ n. get_or words n 0) same ∙ sym is)
      ∙ ap (λ b. eqb b 1) (sym (from_bit-inside word (from % 64) (k % 64) (omega arith) (omega arith)))

  -- a word that is 0 from a number on
  pub none_in_word : from_bit word (from % 64) ≡ 0 → HasNoneIn words from (64 - from % 64)
  none_in_word zero = record {
    none = λ k low high. bit_of k low (omega arith) ∙ ap (λ w. eqb (bit_at w (k % 64)) 1) zero ∙ ap (λ b. eqb b 1) (bit_at-zero (k % 64));
  }

  -- the lowest bit of one that is not
  pub least_in_word : (rest : ℕ) → rest ≡ from_bit word (from % 64) → 0 < rest → rest < 2 ^ 64 → IsLeastIn words from (64 - from % 64) (from - from % 64 + trailing_zeros w64 rest)
  least_in_word rest rest_is some small =
      let t = trailing_zeros w64 rest in
      let lowest = bit_at-trailing_zeros w64 rest some small in
      let inside : t < 64 = lowest.0 in
      let k = from - from % 64 + t in
      let place : k / 64 ≡ from / 64 = omega arith in
      let bit : k % 64 ≡ t = omega arith in
      let reached : from % 64 ≤ t = ⊎_elim
      (λ (below : t < from % 64). absurd (omega (arith, ap (λ w. bit_at w t) rest_is, lowest.1, from_bit-below word (from % 64) t below (omega arith))))
      (λ (h : from % 64 ≤ t). h)
      (cases_lt t (from % 64)) in
      record {
        low = omega arith;
        high = omega arith;
        is = bit_of k (omega arith) place ∙ ap (λ w. eqb (bit_at w (k % 64)) 1) (sym rest_is) ∙ ap (λ b. eqb (bit_at rest b) 1) bit ∙ ap (λ b. eqb b 1) lowest.1;
        least = λ j low before. bit_of j low (omega arith) ∙ ap (λ w. eqb (bit_at w (j % 64)) 1) (sym rest_is) ∙ ap (λ b. eqb b 1) (lowest.2 (j % 64) (omega arith));
      }

-- a word that has no number is 0
word_zero : (words : List ℕ) (i word : ℕ) → word ≡ get_or words i 0 → word < 2 ^ 64 → ((k : ℕ) → 64 * i ≤ k → k < 64 * (i + 1) → has words k ≡ false) → word ≡ 0
word_zero words i word is small none = same_from_bits word 0 (λ b. ⊎_elim
    (λ (inside : b < 64).
    let place : (64 * i + b) / 64 ≡ i = omega arith in
    let bit : (64 * i + b) % 64 ≡ b = omega arith in
    let clear : eqb (bit_at word b) 1 ≡ false =
    ap (λ n. eqb (bit_at word n) 1) (sym bit)
    ∙ sym (has_in_word words (64 * i + b) word (ap (λ n. get_or words n 0) place ∙ sym is))
    ∙ none (64 * i + b) (omega arith) (omega arith) in
    omega (arith, bit_at-lt word b, eqb-false (bit_at word b) 1 clear, bit_at-zero b))
    (λ (past : 64 ≤ b). bit_at_above word 64 b small past ∙ sym (bit_at-zero b))
    (cases_lt b 64))

-- what the words so far, or'ed, tell: whether they have a number
pub record TellsAny (words : List ℕ) (first i all : ℕ) : Type 0 where
  pub none : all ≡ 0 → (k : ℕ) → 64 * first ≤ k → k < 64 * i → has words k ≡ false
  pub zero : ((k : ℕ) → 64 * first ≤ k → k < 64 * i → has words k ≡ false) → all ≡ 0

-- one word more
pub tells_more : (words : List ℕ) (first i all word : ℕ) → first ≤ i → word ≡ get_or words i 0 → word < 2 ^ 64 → TellsAny words first i all → TellsAny words first (i + 1) (bit_or all word)
tells_more words first i all word low is small tells = record {
  none = λ zero k from to. none_more words first i (tells.none (omega (arith, zero, le_or_l all word))) (sym is ∙ omega (arith, zero, le_or_r all word)) k from to;
  zero = λ none.
      let before : all ≡ 0 = tells.zero (λ k from to. none k from (omega arith)) in
      let here : word ≡ 0 = word_zero words i word is small (λ k from to. none k (omega arith) to) in
      ap (λ a. bit_or a word) before ∙ ap (λ w. bit_or 0 w) here;
}
