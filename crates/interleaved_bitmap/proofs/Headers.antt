-- A header in which the word of one block's bit is replaced.
use Rattle.std.proofs.Common.{◌≡◌, ◌≢◌, ◌<◌, ⊎_elim, ℕ, Bool, length, get_or, set, sym, ap, ◌∙◌, arith}
use Rattle.std.proofs.lemmas.Bool.{cases_eq}
use Rattle.std.proofs.lemmas.List.{get_or-set_same, get_or-set_other}
use Rattle.interleaved_bitmap.specs.Bits.{is_set, IsWithBit}
use Rattle.interleaved_bitmap.specs.Places.{word_of_bit, bit_in_word, bit_of_header, PutsBit}

-- a block is known by its word and the bit in it
pub same_block : (i j : ℕ) → i < 4096 → j < 4096 → word_of_bit i ≡ word_of_bit j → bit_in_word i ≡ bit_in_word j → i ≡ j
same_block i j p q word bit = omega arith

pub word_inside : (i : ℕ) → i < 4096 → word_of_bit i < 256
word_inside i h = omega arith

-- the word of a bit, replaced in a header
pub puts_bit : (old bit : ℕ) (on : Bool) (new : ℕ) → IsWithBit old bit on new → PutsBit old bit on new
unfolding bit_of_header
puts_bit old bit on new with_bit = record {
  at = λ header i whole below is place.
      let k = word_of_bit i in
      let inside : k < length header = omega (arith, word_inside i below, whole) in
      record {
        here = ap (λ w. is_set w (bit_in_word i)) (get_or-set_same header k new 0 inside) ∙ ap (is_set new) place ∙ with_bit.here;
        others = λ j within apart. ⊎_elim
            (λ (same : word_of_bit j ≡ k).
            let differ : bit_in_word j ≢ bit = λ e. apart (same_block j i within below same (e ∙ sym place)) in
            ap (λ m. is_set (get_or (set header k new) m 0) (bit_in_word j)) same
            ∙ ap (λ w. is_set w (bit_in_word j)) (get_or-set_same header k new 0 inside)
            ∙ with_bit.others (bit_in_word j) (omega arith) differ
            ∙ ap (λ w. is_set w (bit_in_word j)) (sym is)
            ∙ ap (λ m. is_set (get_or header m 0) (bit_in_word j)) (sym same))
            (λ (other : word_of_bit j ≢ k). ap (λ w. is_set w (bit_in_word j)) (get_or-set_other header k (word_of_bit j) new 0 other))
            (cases_eq (word_of_bit j) k);
      };
}
