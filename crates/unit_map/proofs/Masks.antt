-- Masks of the bits of a word whose numbers lie in a range, and words that a mask changes or picks from.
use Rattle.std.proofs.Common.{◌≡◌, ◌≢◌, ℕ, ◌+◌, ◌-◌, ◌*◌, ◌^◌, ◌<◌, ◌≤◌, min, ⊎_elim, inl, inr, Bool, true, false, eqb, bit_and, bit_or, w64, sym, ap, ◌∙◌, arith}
use Rattle.std.specs.Int.{bit_at}
use Rattle.std.proofs.lemmas.Bool.{cases_lt, eq-eqb, ne_eqb, eqb-true, eqb-false, lt-ltb, le-ltb, true≢false}
use Rattle.std.proofs.lemmas.Nat.Bits.{bit_at-lt, bit_at_and, bit_at_or, bit_at_not}
use Rattle.bit_words.specs.Numbers.{ones}
use Rattle.bit_words.proofs.Bits.{bit_of_ones}
use Rattle.unit_map.specs.Kept.{IsMask, IsMasked, IsPart}

-- the bits of the word with the numbers below n
ones_below : (n bit : ℕ) → bit < 64 → bit < n → bit_at (ones n) bit ≡ 1
ones_below n bit within below = eqb-true (bit_at (ones n) bit) 1 (bit_of_ones n bit within ∙ lt-ltb bit n below)

ones_past : (n bit : ℕ) → bit < 64 → n ≤ bit → bit_at (ones n) bit ≡ 0
ones_past n bit within past = omega (arith, bit_at-lt (ones n) bit, eqb-false (bit_at (ones n) bit) 1 (bit_of_ones n bit within ∙ le-ltb bit n past))

-- a bit of `word & !mask`
bit_without : (word mask bit : ℕ) → mask < 2 ^ 64 → bit < 64 → bit_at (bit_and word (18446744073709551615 - mask)) bit ≡ min (bit_at word bit) (1 - bit_at mask bit)
bit_without word mask bit small within = bit_at_and word (18446744073709551615 - mask) bit ∙ ap (min (bit_at word bit)) (bit_at_not w64 mask bit small within)

-- the numbers below an end, and not those below a first one
pub mask_is : (at from end high low : ℕ) → high ≡ ones (end - 64 * at) → low ≡ ones (from - 64 * at) → low < 2 ^ 64 → IsMask at from end (bit_and high (18446744073709551615 - low))
mask_is at from end high low high_is low_is small = record {
  inside = λ bit within past below.
      let first : bit_at low bit ≡ 0 = ap (λ w. bit_at w bit) low_is ∙ ones_past (from - 64 * at) bit within (omega arith) in
      let last : bit_at high bit ≡ 1 = ap (λ w. bit_at w bit) high_is ∙ ones_below (end - 64 * at) bit within (omega arith) in
      omega (arith, bit_without high low bit small within, first, last);
  outside = λ bit within side. ⊎_elim
      (λ (before : 64 * at + bit < from).
      let first : bit_at low bit ≡ 1 = ap (λ w. bit_at w bit) low_is ∙ ones_below (from - 64 * at) bit within (omega arith) in
      omega (arith, bit_without high low bit small within, first))
      (λ (behind : end ≤ 64 * at + bit).
      let last : bit_at high bit ≡ 0 = ap (λ w. bit_at w bit) high_is ∙ ones_past (end - 64 * at) bit within (omega arith) in
      omega (arith, bit_without high low bit small within, last))
      side;
}

-- `word | mask`
pub masked_on : (word mask : ℕ) (on : Bool) → on ≡ true → IsMasked word mask on (bit_or word mask)
masked_on word mask on is = record {
  these = λ bit within set. eq-eqb (bit_at (bit_or word mask) bit) 1 (omega (arith, bit_at_or word mask bit, bit_at-lt word bit, set)) ∙ sym is;
  others = λ bit within none. omega (arith, bit_at_or word mask bit, none);
}

-- `word & !mask`
pub masked_off : (word mask : ℕ) (on : Bool) → mask < 2 ^ 64 → on ≡ false → IsMasked word mask on (bit_and word (18446744073709551615 - mask))
masked_off word mask on small is = record {
  these = λ bit within set. ne_eqb (bit_at (bit_and word (18446744073709551615 - mask)) bit) 1 (λ one. omega (arith, bit_without word mask bit small within, set, one)) ∙ sym is;
  others = λ bit within none. omega (arith, bit_without word mask bit small within, none, bit_at-lt word bit);
}

-- the bits of a word that are set, or those that are not
pub record AreChosen (word : ℕ) (on : Bool) (chosen : ℕ) : Type 0 where
  pub is : (bit : ℕ) → bit < 64 → bit_at chosen bit ≡ 1 → eqb (bit_at word bit) 1 ≡ on
  pub rest : (bit : ℕ) → bit < 64 → bit_at chosen bit ≡ 0 → eqb (bit_at word bit) 1 ≢ on

pub chosen_on : (word : ℕ) (on : Bool) → on ≡ true → AreChosen word on word
chosen_on word on is = record {
  is = λ bit within set. eq-eqb (bit_at word bit) 1 set ∙ sym is;
  rest = λ bit within none same. omega (arith, none, eqb-true (bit_at word bit) 1 (same ∙ is));
}

pub chosen_off : (word : ℕ) (on : Bool) → word < 2 ^ 64 → on ≡ false → AreChosen word on (18446744073709551615 - word)
chosen_off word on small is = record {
  is = λ bit within set. ne_eqb (bit_at word bit) 1 (λ one. omega (arith, flipped bit within, set, one)) ∙ sym is;
  rest = λ bit within none same.
      let bit_is : bit_at word bit ≡ 1 = omega (arith, flipped bit within, none, bit_at-lt word bit) in
      true≢false (sym (eq-eqb (bit_at word bit) 1 bit_is) ∙ (same ∙ is));
}
  where
    flipped : (bit : ℕ) → bit < 64 → bit_at (18446744073709551615 - word) bit ≡ 1 - bit_at word bit
    flipped bit within = bit_at_not w64 word bit small within

-- those of them whose numbers lie in a range
pub part_is : (word at from end chosen mask : ℕ) (on : Bool) → AreChosen word on chosen → IsMask at from end mask → IsPart word at from end on (bit_and chosen mask)
part_is word at from end chosen mask on are range = record {
  low = λ bit within set. ⊎_elim
      (λ (before : 64 * at + bit < from). absurd (omega (arith, both bit, set, range.outside bit within (inl before))))
      (λ (past : from ≤ 64 * at + bit). past)
      (cases_lt (64 * at + bit) from);
  high = λ bit within set. ⊎_elim
      (λ (below : 64 * at + bit < end). below)
      (λ (behind : end ≤ 64 * at + bit). absurd (omega (arith, both bit, set, range.outside bit within (inr behind))))
      (cases_lt (64 * at + bit) end);
  is = λ bit within set. are.is bit within (omega (arith, both bit, set, bit_at-lt chosen bit));
  rest = λ bit within none past below. are.rest bit within (omega (arith, both bit, none, range.inside bit within past below));
}
  where
    both : (bit : ℕ) → bit_at (bit_and chosen mask) bit ≡ min (bit_at chosen bit) (bit_at mask bit)
    both bit = bit_at_and chosen mask bit
