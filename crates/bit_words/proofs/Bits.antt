-- Numbers in and out of sets that are kept as bits of words.
use Rattle.std.proofs.Common.{◌≡◌, ◌≢◌, ℕ, ◌+◌, ◌-◌, ◌*◌, ◌/◌, ◌%◌, ◌^◌, ◌<◌, ◌≤◌, min, ⊎_elim, Bool, true, false, cond, eqb, ltb, List, length, get_or, set, replicate, refl, sym, ap, ◌∙◌, arith, bit_and, bit_or, w64}
use Rattle.std.specs.Int.{bit_at}
use Rattle.std.proofs.lemmas.Bool.{cases_lt, cases_eq, eq-eqb, ne_eqb, lt-ltb, le-ltb, cond-true, cond-false}
use Rattle.std.proofs.lemmas.List.{get_or-set_same, get_or-set_other, length-set, get_or-replicate, get_or_past, length-replicate}
use Rattle.std.proofs.Math.Nat.{pow-le-pow_right}
use Rattle.std.proofs.lemmas.Nat.{pow_pos}
use Rattle.std.proofs.lemmas.Grind.{common_steps}
use Rattle.std.proofs.lemmas.Nat.Bits.{bit_at-zero, bit_at_set_same, bit_at_set_other, bit_at_clear_same, bit_at_clear_other, bit_at_ones, bit_at_ones_above, shr_and_one}
use Rattle.bit_words.specs.Numbers.{has, ones, IsWithBit, IsPut, IsLeastIn}

-- a number by its word
pub has_in_word : (words : List ℕ) (k word : ℕ) → get_or words (k / 64) 0 ≡ word → has words k ≡ eqb (bit_at word (k % 64)) 1
unfolding has
has_in_word words k word is = ap (λ w. eqb (bit_at w (k % 64)) 1) is

-- a word that is 0 has no number
pub has-zero : (words : List ℕ) (k : ℕ) → get_or words (k / 64) 0 ≡ 0 → has words k ≡ false
has-zero words k is = has_in_word words k 0 is ∙ ap (λ b. eqb b 1) (bit_at-zero (k % 64))

-- the same word has the same numbers
pub has_same : (old new : List ℕ) (k : ℕ) → get_or new (k / 64) 0 ≡ get_or old (k / 64) 0 → has new k ≡ has old k
has_same old new k is = has_in_word new k (get_or old (k / 64) 0) is ∙ sym (has_in_word old k (get_or old (k / 64) 0) refl)

-- a word of words that are all 0
pub get_or-zeros : (n i : ℕ) → get_or {A = ℕ} (replicate n 0) i 0 ≡ 0
get_or-zeros n i = ⊎_elim
    (λ (within : i < n). get_or-replicate n i 0 0 within)
    (λ (past : n ≤ i). get_or_past (replicate n 0) i 0 (omega (arith, length-replicate {A = ℕ} n 0)))
    (cases_lt i n)

-- no number is in a set of words that are all 0
pub has-zeros : (n k : ℕ) → has (replicate n 0) k ≡ false
has-zeros n k = has-zero (replicate n 0) k (get_or-zeros n (k / 64))

-- a number of a set of which one word is replaced
pub has-set : (words : List ℕ) (i word k : ℕ) → i < length words → has (set words i word) k ≡ cond (eqb (k / 64) i) (eqb (bit_at word (k % 64)) 1) (has words k)
has-set words i word k inside = ⊎_elim
    (λ (same : k / 64 ≡ i).
    has_in_word (set words i word) k word (ap (λ n. get_or (set words i word) n 0) same ∙ get_or-set_same words i word 0 inside)
    ∙ sym (cond-true (eqb (k / 64) i) (eqb (bit_at word (k % 64)) 1) (has words k) (eq-eqb (k / 64) i same)))
    (λ (other : k / 64 ≢ i).
    has_same words (set words i word) k (get_or-set_other words i (k / 64) word 0 other)
    ∙ sym (cond-false (eqb (k / 64) i) (eqb (bit_at word (k % 64)) 1) (has words k) (ne_eqb (k / 64) i other)))
    (cases_eq (k / 64) i)

-- `word | 1 << bit`
pub with_bit_set : (word bit : ℕ) (on : Bool) → bit < 64 → on ≡ true → IsWithBit word bit on (bit_or word (1 * 2 ^ bit % 18446744073709551616))
with_bit_set word bit on within is = record {
  here = eq-eqb _ 1 (bit_at_set_same w64 word bit within) ∙ sym is;
  others = λ other below apart. bit_at_set_other w64 word bit within other apart;
}

-- `word & !(1 << bit)`
pub with_bit_clear : (word bit : ℕ) (on : Bool) → bit < 64 → on ≡ false → IsWithBit word bit on (bit_and word (18446744073709551615 - 1 * 2 ^ bit % 18446744073709551616))
with_bit_clear word bit on within is = record {
  here = ap (λ b. eqb b 1) (bit_at_clear_same w64 word bit within) ∙ sym is;
  others = λ other below apart. bit_at_clear_other w64 word bit within other below apart;
}

-- a word with one bit set or cleared, put in the place of the word that has a number
pub puts : (words : List ℕ) (k word : ℕ) (on : Bool) → k / 64 < length words → word < 2 ^ 64 → IsWithBit (get_or words (k / 64) 0) (k % 64) on word → IsPut words k on (set words (k / 64) word)
puts words k word on inside small with_bit = record {
  size = length-set words (k / 64) word;
  others = λ i apart. get_or-set_other words (k / 64) i word 0 apart;
  fits = λ fits i. ⊎_elim
      (λ (same : i ≡ k / 64). omega (arith, ap (λ n. get_or (set words (k / 64) word) n 0) same, get_or-set_same words (k / 64) word 0 inside))
      (λ (apart : i ≢ k / 64). omega (arith, get_or-set_other words (k / 64) i word 0 apart, fits i))
      (cases_eq i (k / 64));
  each = λ j. has-set words (k / 64) word j inside ∙ ⊎_elim
      (λ (same : j ≡ k).
      cond-true (eqb (j / 64) (k / 64)) (eqb (bit_at word (j % 64)) 1) (has words j) (eq-eqb (j / 64) (k / 64) (ap (λ n. n / 64) same))
      ∙ ap (λ n. eqb (bit_at word (n % 64)) 1) same
      ∙ with_bit.here
      ∙ sym (cond-true (eqb j k) on (has words j) (eq-eqb j k same)))
      (λ (apart : j ≢ k). ⊎_elim
      (λ (here : j / 64 ≡ k / 64).
      cond-true (eqb (j / 64) (k / 64)) (eqb (bit_at word (j % 64)) 1) (has words j) (eq-eqb (j / 64) (k / 64) here)
      ∙ ap (λ b. eqb b 1) (with_bit.others (j % 64) (omega arith) (λ e. apart (omega (arith, e))))
      ∙ sym (has_in_word words j (get_or words (k / 64) 0) (ap (λ n. get_or words n 0) here)))
      (λ (there : j / 64 ≢ k / 64). cond-false (eqb (j / 64) (k / 64)) (eqb (bit_at word (j % 64)) 1) (has words j) (ne_eqb (j / 64) (k / 64) there))
      (cases_eq (j / 64) (k / 64))
      ∙ sym (cond-false (eqb j k) on (has words j) (ne_eqb j k apart)))
      (cases_eq j k);
}

-- the bits of the word with the numbers below n
pub bit_of_ones : (n bit : ℕ) → bit < 64 → eqb (bit_at (ones n) bit) 1 ≡ ltb bit n
unfolding ones
bit_of_ones n bit within = ⊎_elim
    (λ (below : bit < n). eq-eqb (bit_at (2 ^ min n 64 - 1) bit) 1 (bit_at_ones (min n 64) bit (omega arith)) ∙ sym (lt-ltb bit n below))
    (λ (past : n ≤ bit). ap (λ b. eqb b 1) (bit_at_ones_above (min n 64) bit (omega arith)) ∙ sym (le-ltb bit n past))
    (cases_lt bit n)

-- the word with the numbers below n is a word
pub ones_fit : (n : ℕ) → ones n < 2 ^ 64
unfolding ones
ones_fit n = omega (arith, pow-le-pow_right {n = 2} (omega arith) {i = min n 64} {j = 64} (omega arith), pow_pos (min n 64))

-- the word with the numbers below n is 0 where there are none
pub ones-none : ones 0 ≡ 0
unfolding ones
ones-none = refl

-- `(word >> k % 64) & 1 == 1`
pub has-shifted : (words : List ℕ) (k word : ℕ) → word ≡ get_or words (k / 64) 0 → eqb (bit_and (word / 2 ^ (k % 64)) 1) 1 ≡ has words k
has-shifted words k word is = ap (λ b. eqb b 1) (shr_and_one word (k % 64)) ∙ sym (has_in_word words k word (sym is))

-- the lowest bit of a word that is not 0
pub least_in_word : (words : List ℕ) (at word lowest : ℕ) → get_or words at 0 ≡ word → lowest < 64 → bit_at word lowest ≡ 1 → ((b : ℕ) → b < lowest → bit_at word b ≡ 0) → IsLeastIn words (64 * at) 64 (64 * at + lowest)
least_in_word words at word lowest is within here below =
    let bit : (b k : ℕ) → k ≡ 64 * at + b → b < 64 → has words k ≡ eqb (bit_at word b) 1 =
    λ b k e inside.
    let place : k / 64 ≡ at = omega arith in
    let rest : k % 64 ≡ b = omega arith in
    has_in_word words k word (ap (λ n. get_or words n 0) place ∙ is) ∙ ap (λ n. eqb (bit_at word n) 1) rest in
    record {
      low = omega arith;
      high = omega arith;
      is = bit lowest (64 * at + lowest) refl within ∙ ap (λ b. eqb b 1) here;
      least = λ j low before. bit (j - 64 * at) j (omega arith) (omega arith) ∙ ap (λ b. eqb b 1) (below (j - 64 * at) (omega arith));
    }

-- one more word that is 0 has no number
pub none_more : (words : List ℕ) (first i : ℕ) → ((k : ℕ) → 64 * first ≤ k → k < 64 * i → has words k ≡ false) → get_or words i 0 ≡ 0 → (k : ℕ) → 64 * first ≤ k → k < 64 * (i + 1) → has words k ≡ false
none_more words first i none zero k low high = ⊎_elim
    (λ (earlier : k < 64 * i). none k low earlier)
    (λ (here : 64 * i ≤ k).
    let place : k / 64 ≡ i = omega arith in
    has-zero words k (ap (λ n. get_or words n 0) place ∙ zero))
    (cases_lt k (64 * i))

-- `(1 << n) - 1`, and all ones
pub ones_shifted : (n : ℕ) → n < 64 → 1 * 2 ^ n % 18446744073709551616 - 1 ≡ ones n
unfolding ones
ones_shifted n below =
    let shifted : 1 * 2 ^ n % 18446744073709551616 ≡ 2 ^ n = grind (arith, common_steps) in
    let least : min n 64 ≡ n = omega arith in
    ap (λ x. x - 1) shifted ∙ ap (λ m. 2 ^ m - 1) (sym least)

pub ones_all : (n : ℕ) → 64 ≤ n → 18446744073709551615 ≡ ones n
unfolding ones
ones_all n past =
    let least : 64 ≡ min n 64 = omega arith in
    ap (λ m. 2 ^ m - 1) least

-- a number put into a set, or out of it, at that number and elsewhere
pub put_here : {old new : List ℕ} {k : ℕ} {on : Bool} → IsPut old k on new → has new k ≡ on
put_here {old} {new} {k} {on} put = put.each k ∙ cond-true (eqb k k) on (has old k) (eq-eqb k k refl)

pub put_beside : {old new : List ℕ} {k : ℕ} {on : Bool} → IsPut old k on new → (j : ℕ) → j ≢ k → has new j ≡ has old j
put_beside {old} {new} {k} {on} put j apart = put.each j ∙ cond-false (eqb j k) on (has old j) (ne_eqb j k apart)

-- a set that a test tells, after one number was put in or out
pub told_after : {old new : List ℕ} {k : ℕ} {on : Bool} (before after : ℕ → Bool) → IsPut old k on new → ((j : ℕ) → has old j ≡ before j) → on ≡ after k → ((j : ℕ) → j ≢ k → before j ≡ after j) →
    (j : ℕ) → has new j ≡ after j
told_after {old} {new} {k} {on} before after put told here others j = ⊎_elim
    (λ (same : j ≡ k). ap (has new) same ∙ put_here put ∙ here ∙ ap after (sym same))
    (λ (apart : j ≢ k). put_beside put j apart ∙ told j ∙ others j apart)
    (cases_eq j k)
