-- The words of a bitmap and the set of the blocks whose bits are set agree.
use Rattle.std.proofs.Common.{◌≡◌, ◌≢◌, ◌+◌, ◌-◌, ◌*◌, ◌%◌, ◌^◌, ◌<◌, ◌≤◌, ⊎_elim, ℕ, Bool, true, false, eqb, ltb, ◌&&◌, ◌||◌, List, get_or, refl, sym, ap, ◌∙◌, arith, bit_and, w64}
use Rattle.std.specs.Int.{bit_at}
use Rattle.std.proofs.lemmas.Bool.{cases_lt, cases_eq, eq-eqb, ne_eqb, lt-ltb, le-ltb, and_left, or_left, or_right}
use Rattle.std.proofs.lemmas.Nat.{and_le_l}
use Rattle.std.proofs.lemmas.Nat.Bits.{bit_at-zero, bit_at_clear_same}
use Rattle.bit_words.specs.Numbers.{has, IsPut}
use Rattle.bit_words.proofs.Bits.{put_here, put_beside}
use Rattle.interleaved_bitmap.specs.Bits.{is_set, IsWithBit}
use Rattle.interleaved_bitmap.specs.Places.{word_of_bit, bit_in_word, bit_of_header, is_marked}
use Rattle.interleaved_bitmap.proofs.Headers.{same_block}

-- a word without one of its bits is less
pub less_without : (word bit : ℕ) → bit < 64 → bit_at word bit ≡ 1 → bit_and word (18446744073709551615 - 1 * 2 ^ bit % 18446744073709551616) < word
less_without word bit within here = ⊎_elim
    (λ (same : bit_and word (18446744073709551615 - 1 * 2 ^ bit % 18446744073709551616) ≡ word). absurd (omega (arith, sym (bit_at_clear_same w64 word bit within) ∙ ap (λ w. bit_at w bit) same ∙ here)))
    (λ apart. omega (arith, and_le_l word (18446744073709551615 - 1 * 2 ^ bit % 18446744073709551616), apart))
    (cases_eq (bit_and word (18446744073709551615 - 1 * 2 ^ bit % 18446744073709551616)) word)

-- a block whose bit is in the word, and one whose bit is not
marked_here : (place word i : ℕ) → word_of_bit i ≡ place → is_marked place word i ≡ is_set word (bit_in_word i)
unfolding is_marked
marked_here place word i here = ap (λ b. b && is_set word (bit_in_word i)) (eq-eqb (word_of_bit i) place here)

marked_elsewhere : (place word i : ℕ) → word_of_bit i ≢ place → is_marked place word i ≡ false
unfolding is_marked
marked_elsewhere place word i there = and_left (eqb (word_of_bit i) place) (is_set word (bit_in_word i)) (ne_eqb (word_of_bit i) place there)

-- of a word of 0 none is
pub marked_none : (place i : ℕ) → is_marked place 0 i ≡ false
unfolding is_set
marked_none place i = ⊎_elim
    (λ here. marked_here place 0 i here ∙ ap (λ b. eqb b 1) (bit_at-zero (bit_in_word i)))
    (λ there. marked_elsewhere place 0 i there)
    (cases_eq (word_of_bit i) place)

-- a block comes into the set, and its bit goes from the word: both together say the same
pub put_marked : {set new : List ℕ} {place word less bit k : ℕ} → IsPut set k true new → k < 4096 → word_of_bit k ≡ place → bit_in_word k ≡ bit → is_set word bit ≡ true → IsWithBit word bit false less →
    (i : ℕ) → i < 4096 → (has new i || is_marked place less i) ≡ (has set i || is_marked place word i)
put_marked {set} {new} {place} {word} {less} {bit} {k} put below in_place in_bit here without i within = ⊎_elim
    (λ (same : i ≡ k).
    let marked : is_marked place word i ≡ true = ap (is_marked place word) same ∙ marked_here place word k in_place ∙ ap (is_set word) in_bit ∙ here in
    or_left (has new i) (is_marked place less i) (ap (has new) same ∙ put_here put) ∙ sym (or_right (has set i) (is_marked place word i) marked))
    (λ (apart : i ≢ k). ap (λ b. b || is_marked place less i) (put_beside put i apart) ∙ ap (λ b. has set i || b) (⊎_elim
    (λ (same : word_of_bit i ≡ place).
    let differ : bit_in_word i ≢ bit = λ e. apart (same_block i k within below (same ∙ sym in_place) (e ∙ sym in_bit)) in
    marked_here place less i same ∙ without.others (bit_in_word i) (omega arith) differ ∙ sym (marked_here place word i same))
    (λ there. marked_elsewhere place less i there ∙ sym (marked_elsewhere place word i there))
    (cases_eq (word_of_bit i) place)))
    (cases_eq i k)

-- a test, or none
pub or_none : (b : Bool) → (b || false) ≡ b
or_none true = refl
or_none false = refl

-- the bits of the words before a place, and those of one word more
pub none_before : (header : List ℕ) (i : ℕ) → false ≡ (ltb (word_of_bit i) 8 && bit_of_header header i)
none_before header i = sym (and_left (ltb (word_of_bit i) 8) (bit_of_header header i) (le-ltb (word_of_bit i) 8 (omega arith)))

pub one_more : (header : List ℕ) (place word i : ℕ) → word ≡ get_or header place 0 → (ltb (word_of_bit i) place && bit_of_header header i || is_marked place word i) ≡ (ltb (word_of_bit i) (place + 1) && bit_of_header header i)
unfolding bit_of_header
one_more header place word i is = ⊎_elim
    (λ (before : word_of_bit i < place).
    let bit = bit_of_header header i in
    ap (λ b. b && bit || is_marked place word i) (lt-ltb (word_of_bit i) place before)
    ∙ ap (λ b. bit || b) (marked_elsewhere place word i (λ e. omega (arith, before, e)))
    ∙ or_none bit
    ∙ sym (ap (λ b. b && bit) (lt-ltb (word_of_bit i) (place + 1) (omega (arith, before)))))
    (λ (later : place ≤ word_of_bit i).
    let bit = bit_of_header header i in
    ap (λ b. b && bit || is_marked place word i) (le-ltb (word_of_bit i) place later) ∙ ⊎_elim
    (λ (here : word_of_bit i ≡ place).
    marked_here place word i here
    ∙ ap (λ w. is_set w (bit_in_word i)) (is ∙ ap (λ k. get_or header k 0) (sym here))
    ∙ sym (ap (λ b. b && bit) (lt-ltb (word_of_bit i) (place + 1) (omega (arith, here)))))
    (λ (past : word_of_bit i ≢ place).
    marked_elsewhere place word i past ∙ sym (ap (λ b. b && bit) (le-ltb (word_of_bit i) (place + 1) (omega (arith, later, past)))))
    (cases_eq (word_of_bit i) place))
    (cases_lt (word_of_bit i) place)

pub all_before : (header : List ℕ) (place i : ℕ) → 72 ≤ place → i < 4096 → (ltb (word_of_bit i) place && bit_of_header header i) ≡ bit_of_header header i
all_before header place i end below = ap (λ b. b && bit_of_header header i) (lt-ltb (word_of_bit i) place (omega arith))
