-- A word with one bit set or cleared, as a sum or a difference.
use Rattle.std.proofs.Common.{◌≡◌, ◌≢◌, ◌+◌, ◌-◌, ◌/◌, ◌%◌, ◌^◌, ◌<◌, ◌≤◌, ⊎_elim, ℕ, zero, suc, Bool, true, false, eqb, cond, refl, sym, ap, ◌∙◌, arith}
use Rattle.std.specs.Int.{bit_at}
use Rattle.std.proofs.lemmas.Bool.{cases_lt, cases_eq, eqb-true}
use Rattle.std.proofs.lemmas.Nat.Bits.{bit_at_lowest, bit_at-suc, bit_at-lt, bit_at_above, same_from_bits}
use Rattle.interleaved_bitmap.specs.Bits.{is_set, IsWithBit}
use Rattle.image_tables.specs.Tables.{bit_of_word}
use Rattle.slab_header.specs.Steps.{with_bit}

-- both readings of a bit are one
pub bit_of_word-is_set : (word bit : ℕ) → bit_of_word word bit ≡ is_set word bit
unfolding bit_of_word is_set
bit_of_word-is_set word bit = refl

-- a bit of a word, spelled out
pub bit_of_word-is : (word bit : ℕ) → eqb (word / 2 ^ bit % 2) 1 ≡ bit_of_word word bit
unfolding bit_of_word
bit_of_word-is word bit = refl

-- a bit by its test
bit_by_test : (a b : ℕ) → a < 2 → b < 2 → eqb a 1 ≡ eqb b 1 → a ≡ b
bit_by_test zero zero p q h = refl
bit_by_test zero (suc zero) p q h = cc
bit_by_test (suc zero) zero p q h = cc
bit_by_test (suc zero) (suc zero) p q h = refl
bit_by_test (suc (suc a)) b p q h = absurd (omega arith)
bit_by_test zero (suc (suc b)) p q h = absurd (omega arith)
bit_by_test (suc zero) (suc (suc b)) p q h = absurd (omega arith)

-- a number and another that has one bit more
pub one_bit_more : (bit a b : ℕ) → bit_at a bit ≡ 0 → bit_at b bit ≡ 1 → ((i : ℕ) → i ≢ bit → bit_at b i ≡ bit_at a i) → b ≡ a + 2 ^ bit
one_bit_more zero a b clear here others =
    let halves : b / 2 ≡ a / 2 = same_from_bits (b / 2) (a / 2) (λ i. sym (bit_at-suc b i) ∙ others (suc i) (λ e. omega (arith, e)) ∙ bit_at-suc a i) in
    omega (arith, halves, sym (bit_at_lowest a) ∙ clear, sym (bit_at_lowest b) ∙ here)
one_bit_more (suc bit) a b clear here others =
    let halves : b / 2 ≡ a / 2 + 2 ^ bit =
    one_bit_more bit (a / 2) (b / 2) (sym (bit_at-suc a bit) ∙ clear) (sym (bit_at-suc b bit) ∙ here) (λ i apart. sym (bit_at-suc b i) ∙ others (suc i) (λ e. apart (omega (arith, e))) ∙ bit_at-suc a i) in
    let lowest : b % 2 ≡ a % 2 = sym (bit_at_lowest b) ∙ others 0 (λ e. omega (arith, e)) ∙ bit_at_lowest a in
    omega (arith, halves, lowest)

-- a bit by its value
set_bit : (word bit : ℕ) → is_set word bit ≡ true → bit_at word bit ≡ 1
unfolding is_set
set_bit word bit h = eqb-true (bit_at word bit) 1 h

clear_bit : (word bit : ℕ) → is_set word bit ≡ false → bit_at word bit ≡ 0
unfolding is_set
clear_bit word bit h = bit_by_test (bit_at word bit) 0 (bit_at-lt word bit) (omega arith) h

-- the bits of words of 64 that differ in one at most
other_bits : (old bit : ℕ) (on : Bool) (new : ℕ) → old < 2 ^ 64 → new < 2 ^ 64 → IsWithBit old bit on new → (i : ℕ) → i ≢ bit → bit_at new i ≡ bit_at old i
unfolding is_set
other_bits old bit on new small below with_it i apart = ⊎_elim
    (λ (inside : i < 64). bit_by_test (bit_at new i) (bit_at old i) (bit_at-lt new i) (bit_at-lt old i) (with_it.others i inside apart))
    (λ (past : 64 ≤ i). bit_at_above new 64 i below past ∙ sym (bit_at_above old 64 i small past))
    (cases_lt i 64)

-- words of the same bits but one, and of that one
all_bits : (old bit new : ℕ) → bit_at new bit ≡ bit_at old bit → ((i : ℕ) → i ≢ bit → bit_at new i ≡ bit_at old i) → new ≡ old
all_bits old bit new here others =
    same_from_bits new old (λ i. ⊎_elim (λ (same : i ≡ bit). ap (bit_at new) same ∙ here ∙ ap (bit_at old) (sym same)) (λ apart. others i apart) (cases_eq i bit))

by_cases : (old bit : ℕ) (on was : Bool) (new : ℕ) → is_set old bit ≡ was → is_set new bit ≡ on → ((i : ℕ) → i ≢ bit → bit_at new i ≡ bit_at old i) →
    new ≡ cond on (cond was old (old + 2 ^ bit)) (cond was (old - 2 ^ bit) old)
by_cases old bit true true new before after others = all_bits old bit new (set_bit new bit after ∙ sym (set_bit old bit before)) others
by_cases old bit true false new before after others = one_bit_more bit old new (clear_bit old bit before) (set_bit new bit after) others
by_cases old bit false true new before after others =
    let more : old ≡ new + 2 ^ bit = one_bit_more bit new old (clear_bit new bit after) (set_bit old bit before) (λ i apart. sym (others i apart)) in
    omega (arith, more)
by_cases old bit false false new before after others = all_bits old bit new (clear_bit new bit after ∙ sym (clear_bit old bit before)) others

-- a word with one bit set or cleared is known
pub with_bit_is : (old bit : ℕ) (on : Bool) (new : ℕ) → old < 2 ^ 64 → new < 2 ^ 64 → IsWithBit old bit on new → new ≡ with_bit old bit on
with_bit_is old bit on new small below with_it =
    by_cases old bit on (bit_of_word old bit) new (sym (bit_of_word-is_set old bit)) with_it.here (other_bits old bit on new small below with_it)
