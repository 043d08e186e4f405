-- One bit of a word set or cleared.
use Rattle.std.proofs.Common.{◌≡◌, ◌<◌, ◌-◌, ◌*◌, ◌/◌, ◌%◌, ◌^◌, ℕ, Bool, true, false, eqb, sym, ap, ◌∙◌, bit_and, bit_or, w64}
use Rattle.std.proofs.lemmas.Bool.{eq-eqb}
use Rattle.std.proofs.lemmas.Nat.Bits.{bit_at_set_same, bit_at_set_other, bit_at_clear_same, bit_at_clear_other, shr_and_one}
use Rattle.interleaved_bitmap.specs.Bits.{is_set, IsWithBit}

-- `(word >> bit) & 1 == 1`
pub is_set-shifted : (word bit : ℕ) → eqb (bit_and (word / 2 ^ bit) 1) 1 ≡ is_set word bit
unfolding is_set
is_set-shifted word bit = ap (λ x. eqb x 1) (shr_and_one word bit)

-- `old | 1 << bit`
pub with_bit_set : (old bit : ℕ) (on : Bool) → bit < 64 → on ≡ true → IsWithBit old bit on (bit_or old (1 * 2 ^ bit % 18446744073709551616))
unfolding is_set
with_bit_set old bit on within is = record {
  here = eq-eqb _ 1 (bit_at_set_same w64 old bit within) ∙ sym is;
  others = λ other below apart. ap (λ x. eqb x 1) (bit_at_set_other w64 old bit within other apart);
}

-- `old & !(1 << bit)`
pub with_bit_clear : (old bit : ℕ) (on : Bool) → bit < 64 → on ≡ false → IsWithBit old bit on (bit_and old (18446744073709551615 - 1 * 2 ^ bit % 18446744073709551616))
unfolding is_set
with_bit_clear old bit on within is = record {
  here = ap (λ x. eqb x 1) (bit_at_clear_same w64 old bit within) ∙ sym is;
  others = λ other below apart. ap (λ x. eqb x 1) (bit_at_clear_other w64 old bit within other below apart);
}
