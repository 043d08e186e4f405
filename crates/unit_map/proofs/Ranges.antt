-- Ranges of numbers that are put into a set or out of it, and searched, word by word.
use Rattle.std.proofs.Common.{◌≡◌, ◌≢◌, ◌⊎◌, ℕ, ◌+◌, ◌*◌, ◌/◌, ◌%◌, ◌^◌, ◌<◌, ◌≤◌, ⊎_elim, inl, inr, Bool, eqb, not, true, false, List, Option, Some, None, MatchOption, IsTrue, ◌↔◌, length, get_or, set, w64, refl, sym, ap, ◌∙◌, arith}
use Rattle.std.specs.Int.{bit_at, trailing_zeros}
use Rattle.std.specs.Option.{is_some}
use Rattle.std.proofs.lemmas.Bool.{cases_eq, eq-eqb, ne_eqb, cond-true, cond-false, true≢false, false≢true}
use Rattle.std.proofs.lemmas.Nat.Bits.{bit_at-zero, bit_at-trailing_zeros}
use Rattle.bit_words.specs.Numbers.{has}
use Rattle.bit_words.proofs.Bits.{has_in_word, has-set}
use Rattle.unit_map.specs.Kept.{IsMask, IsMasked, IsPart, HasNone, IsFirst, HasNoneInWord, IsFirstInWord}

-- a number of the word that was replaced, and one of another word
has_here : (words : List ℕ) (at word k : ℕ) → at < length words → k / 64 ≡ at → has (set words at word) k ≡ eqb (bit_at word (k % 64)) 1
has_here words at word k inside here = has-set words at word k inside ∙ cond-true (eqb (k / 64) at) (eqb (bit_at word (k % 64)) 1) (has words k) (eq-eqb (k / 64) at here)

has_there : (words : List ℕ) (at word k : ℕ) → at < length words → k / 64 ≢ at → has (set words at word) k ≡ has words k
has_there words at word k inside there = has-set words at word k inside ∙ cond-false (eqb (k / 64) at) (eqb (bit_at word (k % 64)) 1) (has words k) (ne_eqb (k / 64) at there)

module _ (words : List ℕ) (at from end mask word : ℕ) (on : Bool) (inside : at < length words) (is_mask : IsMask at from end mask) (masked : IsMasked (get_or words at 0) mask on word) where
  -- the numbers of one word more are in, or out
  pub these_more : ((k : ℕ) → from ≤ k → k < end → k < 64 * at → has words k ≡ on) → (k : ℕ) → from ≤ k → k < end → k < 64 * (at + 1) → has (set words at word) k ≡ on
  these_more before k low high last = ⊎_elim
      (λ (here : k / 64 ≡ at). has_here words at word k inside here ∙ masked.these (k % 64) (omega arith) (is_mask.inside (k % 64) (omega arith) (omega (arith, here)) (omega (arith, here))))
      (λ (there : k / 64 ≢ at). has_there words at word k inside there ∙ before k low high (omega (arith, there)))
      (cases_eq (k / 64) at)

  -- and all others are as they were
  pub others_stay : (k : ℕ) → (k < from) ⊎ (end ≤ k) → has (set words at word) k ≡ has words k
  others_stay k side = ⊎_elim
      (λ (here : k / 64 ≡ at).
      let number : 64 * at + k % 64 ≡ k = omega (arith, here) in
      let none : bit_at mask (k % 64) ≡ 0 = is_mask.outside (k % 64) (omega arith) (⊎_elim (λ (before : k < from). inl (omega (arith, before))) (λ (behind : end ≤ k). inr (omega (arith, behind))) side) in
      has_here words at word k inside here
      ∙ ap (λ b. eqb b 1) (masked.others (k % 64) (omega arith) none)
      ∙ sym (has_in_word words k (get_or words at 0) (ap (λ n. get_or words n 0) here)))
      (λ (there : k / 64 ≢ at). has_there words at word k inside there)
      (cases_eq (k / 64) at)

module _ (words : List ℕ) (at from end part : ℕ) (on : Bool) (is_part : IsPart (get_or words at 0) at from end on part) where
  -- a number of the word by its bit
  bit_of : (k : ℕ) → k / 64 ≡ at → has words k ≡ eqb (bit_at (get_or words at 0) (k % 64)) 1
  bit_of k here = has_in_word words k (get_or words at 0) (ap (λ n. get_or words n 0) here)

  -- the part has no bit
  pub none_in_word : part ≡ 0 → HasNoneInWord words at from end on
  none_in_word zero = record {
    none = λ k low high here same.
        is_part.rest (k % 64) (omega arith) (ap (λ w. bit_at w (k % 64)) zero ∙ bit_at-zero (k % 64)) (omega (arith, here)) (omega (arith, here)) (sym (bit_of k here) ∙ same);
  }

  -- its lowest bit
  pub first_in_word : 0 < part → part < 2 ^ 64 → IsFirstInWord words at from end on (64 * at + trailing_zeros w64 part)
  first_in_word some small =
      let t = trailing_zeros w64 part in
      let lowest = bit_at-trailing_zeros w64 part some small in
      let inside : t < 64 = lowest.0 in
      let k = 64 * at + t in
      let place : k / 64 ≡ at = omega arith in
      let bit : k % 64 ≡ t = omega arith in
      record {
        low = is_part.low t inside lowest.1;
        high = is_part.high t inside lowest.1;
        place = place;
        is = bit_of k place ∙ ap (λ b. eqb (bit_at (get_or words at 0) b) 1) bit ∙ is_part.is t inside lowest.1;
        first = λ j low before here same.
            is_part.rest (j % 64) (omega arith) (lowest.2 (j % 64) (omega (arith, here, before))) (omega (arith, here)) (omega (arith, here, before, is_part.high t inside lowest.1)) (sym (bit_of j here) ∙ same);
      }

-- one word more has none
pub none_more : (words : List ℕ) (at from end : ℕ) (on : Bool) → HasNoneInWord words at from end on →
    ((k : ℕ) → from ≤ k → k < end → k < 64 * at → has words k ≢ on) → (k : ℕ) → from ≤ k → k < end → k < 64 * (at + 1) → has words k ≢ on
none_more words at from end on word before k low high last = ⊎_elim
    (λ (here : k / 64 ≡ at). word.none k low high here)
    (λ (there : k / 64 ≢ at). before k low high (omega (arith, there)))
    (cases_eq (k / 64) at)

-- a range has no number exactly where no first one is found
pub none_if_first : (words : List ℕ) (from end : ℕ) (found : Option ℕ) (answer : Bool) → is_some found ≡ not answer → MatchOption found (HasNone words from end true) (IsFirst words from end true) → IsTrue answer ↔ HasNone words from end true
none_if_first words from end None true told none = (λ _. none, λ _. refl)
none_if_first words from end None false told none = absurd (false≢true told)
none_if_first words from end (Some k) true told first = absurd (true≢false told)
none_if_first words from end (Some k) false told first = (λ is. absurd (false≢true is), λ none. absurd (none.none k first.low first.high first.is))
