-- The blocks of a slab that a set of numbers has are taken, word by word.
use Rattle.std.proofs.Common.{◌≡◌, ◌≢◌, ℕ, zero, suc, ◌+◌, ◌-◌, ◌*◌, ◌/◌, ◌%◌, ◌^◌, ◌<◌, ◌≤◌, min, ⊎_elim, Bool, true, false, cond, eqb, ltb, ◌&&◌, bit_and, w64, List, Option, length, get_or, set, refl, sym, ap, ◌∙◌, arith}
use Rattle.slab_index.proofs.Common.{bit_at, cases_lt, cases_eq, eq-eqb, ne_eqb, eqb-true, lt-ltb, le-ltb, cond-true, cond-false, and_parts, and_from, and_left, false_from_ne_true, false≢true, get_or-set_same, get_or-set_other, get_or_past, length-set, and_le_l, bit_at-lt, bit_at_and, bit_at_not, has, has_in_word, has-zero, has-set}
use Rattle.slab_index.specs.SlabSet.{SlabSet, is_available}
use Rattle.slab_index.specs.Kept.{set_of, IsTakenFrom}
use Rattle.slab_index.proofs.Views.{available_within, available_past}

-- a bit that stays where another is not set
stays : (x y : ℕ) → x < 2 → y < 2 → eqb (min x (1 - y)) 1 ≡ cond (eqb y 1) false (eqb x 1)
stays zero zero p q = refl
stays zero (suc zero) p q = refl
stays (suc zero) zero p q = refl
stays (suc zero) (suc zero) p q = refl
stays (suc (suc x)) y p q = absurd (omega arith)
stays zero (suc (suc y)) p q = absurd (omega arith)
stays (suc zero) (suc (suc y)) p q = absurd (omega arith)

-- the numbers that a word has are taken from a word of a set
pub taken_from : (words : List ℕ) (at word : ℕ) → at < length words → word < 2 ^ 64 → IsTakenFrom words at word (set words at (bit_and (get_or words at 0) (18446744073709551615 - word)))
taken_from words at word inside small =
    let old = get_or words at 0 in
    let left = bit_and old (18446744073709551615 - word) in
    record {
      size = length-set words at left;
      others = λ i apart. get_or-set_other words at i left 0 apart;
      fits = λ fits i. ⊎_elim
          (λ (same : i ≡ at). omega (arith, ap (λ n. get_or (set words at left) n 0) same, get_or-set_same words at left 0 inside, and_le_l old (18446744073709551615 - word), fits at))
          (λ (apart : i ≢ at). omega (arith, get_or-set_other words at i left 0 apart, fits i))
          (cases_eq i at);
      each = λ k.
          let bit = eqb (bit_at word (k % 64)) 1 in
          has-set words at left k inside ∙ ⊎_elim
          (λ (here : k / 64 ≡ at).
          cond-true (eqb (k / 64) at) (eqb (bit_at left (k % 64)) 1) (has words k) (eq-eqb (k / 64) at here)
          ∙ ap (λ b. eqb b 1) (bit_at_and old (18446744073709551615 - word) (k % 64) ∙ ap (min (bit_at old (k % 64))) (bit_at_not w64 word (k % 64) small (omega arith)))
          ∙ stays (bit_at old (k % 64)) (bit_at word (k % 64)) (bit_at-lt old (k % 64)) (bit_at-lt word (k % 64))
          ∙ ap (cond bit false) (sym (has_in_word words k old (ap (λ n. get_or words n 0) here)))
          ∙ sym (ap (λ b. cond (b && bit) false (has words k)) (eq-eqb (k / 64) at here)))
          (λ (there : k / 64 ≢ at).
          cond-false (eqb (k / 64) at) (eqb (bit_at left (k % 64)) 1) (has words k) (ne_eqb (k / 64) at there)
          ∙ sym (ap (λ b. cond (b && bit) false (has words k)) (ne_eqb (k / 64) at there)))
          (cases_eq (k / 64) at);
    }

-- so no number comes to it
pub had_taken : {words left : List ℕ} {at word : ℕ} → IsTakenFrom words at word left → (k : ℕ) → has left k ≡ true → has words k ≡ true
had_taken {words} {left} {at} {word} taken k is = had (eqb (k / 64) at && eqb (bit_at word (k % 64)) 1) (sym (taken.each k) ∙ is)
  where
    had : (b : Bool) → cond b false (has words k) ≡ true → has words k ≡ true
    had true is = absurd (false≢true is)
    had false is = is

-- the blocks after those of one word of a slab were taken that another word has
pub word_after : {granules : ℕ} {classes : List (Option ℕ)} {blocks left : List ℕ} {set : SlabSet} (now : ℕ) (later : List (Option ℕ)) (start at word : ℕ) → set_of granules classes blocks ≡ set → at < 64 →
    IsTakenFrom blocks (64 * start + at) word left →
    (s i : ℕ) → is_available (set_of now later left) s i ≡ cond (eqb s start && (eqb (i / 64) at && eqb (bit_at word (i % 64)) 1)) false (is_available set s i)
word_after {granules} {classes} {blocks} {left} {set} now later start at word is few taken s i = ⊎_elim
    (λ (below : i < 4096).
    let k = 4096 * s + i in
    let bit : k % 64 ≡ i % 64 = omega arith in
    available_within {granules = now} {classes = later} {blocks = left} refl s i below
    ∙ taken.each k
    ∙ ap (λ b. cond (eqb (k / 64) (64 * start + at) && eqb (bit_at word b) 1) false (has blocks k)) bit
    ∙ ap (λ b. cond (b && eqb (bit_at word (i % 64)) 1) false (has blocks k)) (same_place s i below)
    ∙ ap (λ b. cond b false (has blocks k)) (and_three (eqb s start) (eqb (i / 64) at) (eqb (bit_at word (i % 64)) 1))
    ∙ ap (cond (eqb s start && (eqb (i / 64) at && eqb (bit_at word (i % 64)) 1)) false) (sym (available_within is s i below)))
    (λ (past : 4096 ≤ i).
    available_past {granules = now} {classes = later} {blocks = left} refl s i past
    ∙ sym (cond_same (eqb s start && (eqb (i / 64) at && eqb (bit_at word (i % 64)) 1)) (available_past is s i past)))
    (cases_lt i 4096)
  where
    and_three : (a b c : Bool) → ((a && b) && c) ≡ (a && (b && c))
    and_three true b c = refl
    and_three false b c = refl

    cond_same : {x : Bool} (b : Bool) → x ≡ false → cond b false x ≡ false
    cond_same true is = refl
    cond_same false is = is

    same_place : (s i : ℕ) → i < 4096 → eqb ((4096 * s + i) / 64) (64 * start + at) ≡ (eqb s start && eqb (i / 64) at)
    same_place s i below = ⊎_elim
        (λ (same : (4096 * s + i) / 64 ≡ 64 * start + at).
        eq-eqb ((4096 * s + i) / 64) (64 * start + at) same
        ∙ sym (and_from (eqb s start) (eqb (i / 64) at) (eq-eqb s start (omega (arith, same))) (eq-eqb (i / 64) at (omega (arith, same)))))
        (λ (apart : (4096 * s + i) / 64 ≢ 64 * start + at).
        ne_eqb ((4096 * s + i) / 64) (64 * start + at) apart
        ∙ sym (false_from_ne_true (eqb s start && eqb (i / 64) at) (λ both.
        let parts = and_parts (eqb s start) (eqb (i / 64) at) both in
        apart (omega (arith, eqb-true s start parts.0, eqb-true (i / 64) at parts.1)))))
        (cases_eq ((4096 * s + i) / 64) (64 * start + at))

-- one word more
pub taken_more : (numbers : List ℕ) (s start at i : ℕ) (was : Bool) →
    cond (eqb s start && (eqb (i / 64) at && eqb (bit_at (get_or numbers at 0) (i % 64)) 1)) false (cond (eqb s start && (ltb (i / 64) at && has numbers i)) false was) ≡ cond (eqb s start && (ltb (i / 64) (at + 1) && has numbers i)) false was
taken_more numbers s start at i was = ⊎_elim
    (λ (here : i / 64 ≡ at).
    ap (λ b. cond (eqb s start && (b && eqb (bit_at (get_or numbers at 0) (i % 64)) 1)) false (cond (eqb s start && (ltb (i / 64) at && has numbers i)) false was)) (eq-eqb (i / 64) at here)
    ∙ ap (λ b. cond (eqb s start && b) false (cond (eqb s start && (ltb (i / 64) at && has numbers i)) false was)) (sym (has_in_word numbers i (get_or numbers at 0) (ap (λ n. get_or numbers n 0) here)))
    ∙ ap (λ b. cond (eqb s start && has numbers i) false (cond (eqb s start && (b && has numbers i)) false was)) (le-ltb (i / 64) at (omega (arith, here)))
    ∙ first (eqb s start) (has numbers i)
    ∙ sym (ap (λ b. cond (eqb s start && (b && has numbers i)) false was) (lt-ltb (i / 64) (at + 1) (omega (arith, here)))))
    (λ (apart : i / 64 ≢ at).
    ap (λ b. cond (eqb s start && (b && eqb (bit_at (get_or numbers at 0) (i % 64)) 1)) false (cond (eqb s start && (ltb (i / 64) at && has numbers i)) false was)) (ne_eqb (i / 64) at apart)
    ∙ none (eqb s start) (cond (eqb s start && (ltb (i / 64) at && has numbers i)) false was)
    ∙ ap (λ b. cond (eqb s start && (b && has numbers i)) false was) (⊎_elim
    (λ (before : i / 64 < at). lt-ltb (i / 64) at before ∙ sym (lt-ltb (i / 64) (at + 1) (omega (arith, before))))
    (λ (past : at ≤ i / 64). le-ltb (i / 64) at past ∙ sym (le-ltb (i / 64) (at + 1) (omega (arith, past, apart))))
    (cases_lt (i / 64) at)))
    (cases_eq (i / 64) at)
  where
    first : (a b : Bool) → cond (a && b) false (cond (a && false) false was) ≡ cond (a && b) false was
    first true b = refl
    first false b = refl

    none : (a x : Bool) → cond (a && false) false x ≡ x
    none true x = refl
    none false x = refl

-- all words
pub taken_all : (numbers : List ℕ) (s start at i : ℕ) (was : Bool) → length numbers ≡ 64 → 64 ≤ at → cond (eqb s start && (ltb (i / 64) at && has numbers i)) false was ≡ cond (eqb s start && has numbers i) false was
taken_all numbers s start at i was size end = ap (λ b. cond (eqb s start && b) false was) (⊎_elim
    (λ (before : i / 64 < at). ap (λ b. b && has numbers i) (lt-ltb (i / 64) at before))
    (λ (past : at ≤ i / 64). and_left (ltb (i / 64) at) (has numbers i) (le-ltb (i / 64) at past) ∙ sym (has-zero numbers i (get_or_past numbers (i / 64) 0 (omega (arith, size, end, past)))))
    (cases_lt (i / 64) at))
