-- The lowest start of a slab of another class, from the sets that candidates keep.
use Rattle.std.proofs.Common.{◌≡◌, ◌≢◌, ℕ, ◌+◌, ◌-◌, ◌*◌, ◌/◌, ◌%◌, ◌^◌, ◌<◌, ◌≤◌, min, ⊎_elim, false, eqb, bit_and, w64, List, get_or, sym, ap, ◌∙◌, subst, arith}
use Rattle.slab_index.proofs.Common.{bit_at, cases_lt, cases_eq, eq-eqb, eqb-true, both_ways, bit_at-lt, bit_at_and, bit_at_not, bit_at-zero, has, has_in_word}
use Rattle.slab_index.specs.Kept.{IsSummary}
use Rattle.slab_index.proofs.Lowest.{none_of_word, none_at}
use Rattle.slab_index.specs.Sparse.{IsOther, HasNoneInWord, IsFirstInWord, HasNoneInRow, IsFirstInRow}

-- a number of 4096 by its word and bit
has_at : (words : List ℕ) (base at b : ℕ) → b < 64 → has words (4096 * base + (64 * at + b)) ≡ eqb (bit_at (get_or words (64 * base + at) 0) b) 1
has_at words base at b small =
    let k = 4096 * base + (64 * at + b) in
    let word = get_or words (64 * base + at) 0 in
    let place : k / 64 ≡ 64 * base + at = omega arith in
    let rest : k % 64 ≡ b = omega arith in
    has_in_word words k word (ap (λ n. get_or words n 0) place) ∙ ap (λ n. eqb (bit_at word n) 1) rest

-- the bits of a word that neither of two others has
abbrev pub left_of : ℕ → ℕ → ℕ → ℕ
left_of here own unfit = bit_and (bit_and here (18446744073709551615 - own)) (18446744073709551615 - unfit)

left_bit : (here own unfit b : ℕ) → own < 2 ^ 64 → unfit < 2 ^ 64 → b < 64 → bit_at (left_of here own unfit) b ≡ min (min (bit_at here b) (1 - bit_at own b)) (1 - bit_at unfit b)
left_bit here own unfit b own_fits unfit_fits small =
    bit_at_and (bit_and here (18446744073709551615 - own)) (18446744073709551615 - unfit) b
    ∙ ap (λ x. min x (bit_at (18446744073709551615 - unfit) b)) (bit_at_and here (18446744073709551615 - own) b ∙ ap (min (bit_at here b)) (bit_at_not w64 own b own_fits small))
    ∙ ap (min (min (bit_at here b) (1 - bit_at own b))) (bit_at_not w64 unfit b unfit_fits small)

record IsSet (x y z : ℕ) : Type 0 where
  here : x ≡ 1
  own : y ≡ 0
  unfit : z ≡ 0

set_bits : (x y z : ℕ) → x < 2 → y < 2 → z < 2 → min (min x (1 - y)) (1 - z) ≡ 1 → IsSet x y z
set_bits x y z p q r is = record { here = omega arith; own = omega arith; unfit = omega arith }

bits_set : (x y z : ℕ) → x ≡ 1 → y ≡ 0 → z ≡ 0 → min (min x (1 - y)) (1 - z) ≡ 1
bits_set x y z p q r = omega arith

-- a bit that is not said to be set is clear
clear_bit : (word b : ℕ) → eqb (bit_at word b) 1 ≡ false → bit_at word b ≡ 0
clear_bit word b test = ⊎_elim
    (λ (one : bit_at word b ≡ 1). absurd (both_ways (eqb (bit_at word b) 1) test (eq-eqb (bit_at word b) 1 one)))
    (λ (zero : bit_at word b ≢ 1). omega (arith, bit_at-lt word b))
    (cases_eq (bit_at word b) 1)

module _ (starts classes unfit : List ℕ) (class live at : ℕ) (own_fits : get_or classes (64 * class + at) 0 < 2 ^ 64) (unfit_fits : get_or unfit (64 * class + at) 0 < 2 ^ 64) where
  -- the slabs of this word that are searched
  abbrev pub word_left : ℕ
  word_left = left_of (get_or starts (64 * live + at) 0) (get_or classes (64 * class + at) 0) (get_or unfit (64 * class + at) 0)

  -- a bit of it is such a slab
  pub other_of_bit : (b : ℕ) → b < 64 → bit_at word_left b ≡ 1 → IsOther starts classes unfit class live (64 * at + b)
  other_of_bit b small is =
      let here = get_or starts (64 * live + at) 0 in
      let own = get_or classes (64 * class + at) 0 in
      let noted = get_or unfit (64 * class + at) 0 in
      let set = set_bits (bit_at here b) (bit_at own b) (bit_at noted b) (bit_at-lt here b) (bit_at-lt own b) (bit_at-lt noted b) (sym (left_bit here own noted b own_fits unfit_fits small) ∙ is) in
      record {
        is = has_at starts live at b small ∙ eq-eqb (bit_at here b) 1 set.here;
        other = has_at classes class at b small ∙ ap (λ x. eqb x 1) set.own;
        sought = has_at unfit class at b small ∙ ap (λ x. eqb x 1) set.unfit;
      }

  -- such a slab is a bit of it
  pub bit_of_other : (b : ℕ) → b < 64 → IsOther starts classes unfit class live (64 * at + b) → bit_at word_left b ≡ 1
  bit_of_other b small other =
      let here = get_or starts (64 * live + at) 0 in
      let own = get_or classes (64 * class + at) 0 in
      let noted = get_or unfit (64 * class + at) 0 in
      left_bit here own noted b own_fits unfit_fits small
      ∙ bits_set (bit_at here b) (bit_at own b) (bit_at noted b) (eqb-true (bit_at here b) 1 (sym (has_at starts live at b small) ∙ other.is))
      (clear_bit own b (sym (has_at classes class at b small) ∙ other.other))
      (clear_bit noted b (sym (has_at unfit class at b small) ∙ other.sought))

  -- a start by its place in the word
  of_start : (P : ℕ → Type 0) (s : ℕ) → s / 64 ≡ at → P s → P (64 * at + s % 64)
  of_start P s place is = let same : s ≡ 64 * at + s % 64 = omega arith in subst P same is

  pub none_in_word : (word : ℕ) → word ≡ word_left → word ≡ 0 → HasNoneInWord starts classes unfit class live at
  none_in_word word is zero = record {
    none = λ s place other.
        let b = s % 64 in
        let small : b < 64 = omega arith in
        absurd (omega (arith, bit_of_other b small (of_start (IsOther starts classes unfit class live) s place other), ap (λ w. bit_at w b) (sym is ∙ zero), bit_at-zero b));
  }

  pub first_in_word : (word lowest : ℕ) → word ≡ word_left → lowest < 64 → bit_at word lowest ≡ 1 → ((b : ℕ) → b < lowest → bit_at word b ≡ 0) → IsFirstInWord starts classes unfit class live at (64 * at + lowest)
  first_in_word word lowest same small is below = record {
    place = omega arith;
    is = other_of_bit lowest small (ap (λ w. bit_at w lowest) (sym same) ∙ is);
    first = λ s place before other.
        let b = s % 64 in
        let less : b < lowest = omega (arith, place, before) in
        absurd (omega (arith, bit_of_other b (omega arith) (of_start (IsOther starts classes unfit class live) s place other), ap (λ w. bit_at w b) same, below b less));
  }

-- a word that is 0 has none
pub none_in_clear_word : {starts some : List ℕ} (classes unfit : List ℕ) (class live at : ℕ) → IsSummary starts some → has some (64 * live + at) ≡ false → at < 64 → HasNoneInWord starts classes unfit class live at
none_in_clear_word {starts} {some} classes unfit class live at summary none small = record {
  none = λ s place other.
      let k = 4096 * live + s in
      let word : k / 64 ≡ 64 * live + at = omega (arith, place) in
      both_ways (has starts k) (none_of_word summary k (ap (has some) word ∙ none)) other.is;
}

-- nor have the words of a number of live blocks that no slab has
pub none_in_clear_row : {starts some : List ℕ} (classes unfit : List ℕ) (class live : ℕ) → IsSummary starts some → get_or some live 0 ≡ 0 → HasNoneInRow starts classes unfit class live
none_in_clear_row {starts} {some} classes unfit class live summary none = record {
  none = λ s small other. both_ways (has starts (4096 * live + s)) (none_at summary live s none small) other.is;
}

-- one word more
pub one_word_more : (starts classes unfit : List ℕ) (class live at : ℕ) → ((s : ℕ) → s < 64 * at → ¬ (IsOther starts classes unfit class live s)) → HasNoneInWord starts classes unfit class live at →
    (s : ℕ) → s < 64 * (at + 1) → ¬ (IsOther starts classes unfit class live s)
one_word_more starts classes unfit class live at before here s less other = ⊎_elim
    (λ (earlier : s < 64 * at). before s earlier other)
    (λ (now : 64 * at ≤ s). here.none s (omega arith) other)
    (cases_lt s (64 * at))

-- the first of a word of which all words before have none
pub first_in_row : (starts classes unfit : List ℕ) (class live at start : ℕ) → at < 64 → ((s : ℕ) → s < 64 * at → ¬ (IsOther starts classes unfit class live s)) → IsFirstInWord starts classes unfit class live at start →
    IsFirstInRow starts classes unfit class live start
first_in_row starts classes unfit class live at start small before found = record {
  inside = omega (arith, found.place, small);
  is = found.is;
  first = λ s less other. ⊎_elim
      (λ (earlier : s < 64 * at). before s earlier other)
      (λ (now : 64 * at ≤ s). found.first s (omega (arith, now, less, found.place)) less other)
      (cases_lt s (64 * at));
}
