-- Sets of numbers of which 64 words are filled.
use Rattle.std.proofs.Common.{◌≡◌, ◌≢◌, ℕ, ◌+◌, ◌-◌, ◌*◌, ◌/◌, ◌%◌, ◌^◌, ◌<◌, ◌≤◌, min, ⊎_elim, Bool, true, false, cond, eqb, ltb, ◌&&◌, List, length, get_or, set, refl, sym, ap, ◌∙◌, arith}
use Rattle.std.specs.Int.{bit_at}
use Rattle.std.proofs.lemmas.Bool.{cases_lt, cases_eq, eq-eqb, ne_eqb, lt-ltb, le-ltb, cond-true, cond-false, and_from, and_left, and_right}
use Rattle.std.proofs.lemmas.List.{get_or-set_same, get_or-set_other}
use Rattle.bit_words.specs.Numbers.{has, ones, IsFilled}
use Rattle.bit_words.proofs.Bits.{has_in_word, has_same, has-set, bit_of_ones, ones_fit, ones-none}

-- two tests of one meaning
pub same_ltb : (a b m n : ℕ) → (a < b → m < n) → (m < n → a < b) → ltb a b ≡ ltb m n
same_ltb a b m n there back = ⊎_elim
    (λ (less : a < b). lt-ltb a b less ∙ sym (lt-ltb m n (there less)))
    (λ (more : b ≤ a). le-ltb a b more ∙ sym (le-ltb m n (⊎_elim (λ (h : m < n). absurd (omega (arith, back h))) (λ (h : n ≤ m). h) (cases_lt m n))))
    (cases_lt a b)

-- the word with the numbers below n is not 0 where there are some
pub some_of_ones : (n : ℕ) → ltb 0 (ones n) ≡ ltb 0 n
some_of_ones n =
    let lowest : eqb (bit_at (ones n) 0) 1 ≡ ltb 0 n = bit_of_ones n 0 (omega arith) in
    ⊎_elim
    (λ (none : ones n ≡ 0). ap (ltb 0) none ∙ sym (ap (λ w. eqb (bit_at w 0) 1) none) ∙ lowest)
    (λ (some : ones n ≢ 0). same_ltb 0 (ones n) 0 n
    (λ _. ⊎_elim (λ (zero : n ≡ 0). absurd (some (ap ones zero ∙ ones-none))) (λ (more : n ≢ 0). omega arith) (cases_eq n 0))
    (λ _. omega arith))
    (cases_eq (ones n) 0)

-- a slab that has blocks has words that are not 0
pub some_if_more : (n : ℕ) → 0 < n → ltb 0 (ones (n / 64 + min 1 (n % 64))) ≡ true
some_if_more n more = some_of_ones (n / 64 + min 1 (n % 64)) ∙ lt-ltb 0 (n / 64 + min 1 (n % 64)) (omega arith)

-- a word of the 64, and another
pub word_filled : {old new : List ℕ} {place n : ℕ} → IsFilled old place n new → (i : ℕ) → i / 64 ≡ place → get_or new i 0 ≡ ones (n - 64 * (i % 64))
word_filled {old} {new} {place} {n} filled i here =
    filled.each i ∙ cond-true (eqb (i / 64) place) (ones (n - 64 * (i % 64))) (get_or old i 0) (eq-eqb (i / 64) place here)

pub word_beside : {old new : List ℕ} {place n : ℕ} → IsFilled old place n new → (i : ℕ) → i / 64 ≢ place → get_or new i 0 ≡ get_or old i 0
word_beside {old} {new} {place} {n} filled i there =
    filled.each i ∙ cond-false (eqb (i / 64) place) (ones (n - 64 * (i % 64))) (get_or old i 0) (ne_eqb (i / 64) place there)

-- all of the words are words
pub fits_filled : {old new : List ℕ} {place n : ℕ} → IsFilled old place n new → ((i : ℕ) → get_or old i 0 < 2 ^ 64) → (i : ℕ) → get_or new i 0 < 2 ^ 64
fits_filled {old} {new} {place} {n} filled fits i = ⊎_elim
    (λ (here : i / 64 ≡ place). omega (arith, word_filled filled i here, ones_fit (n - 64 * (i % 64))))
    (λ (there : i / 64 ≢ place). omega (arith, word_beside filled i there, fits i))
    (cases_eq (i / 64) place)

-- the numbers of a set after 64 words were filled
pub has_filled : {old new : List ℕ} {place n : ℕ} → IsFilled old place n new → (k : ℕ) → has new k ≡ cond (eqb (k / 4096) place) (ltb (k % 4096) n) (has old k)
has_filled {old} {new} {place} {n} filled k = ⊎_elim
    (λ (here : k / 4096 ≡ place).
    has_in_word new k (ones (n - 64 * (k / 64 % 64))) (word_filled filled (k / 64) (omega arith))
    ∙ bit_of_ones (n - 64 * (k / 64 % 64)) (k % 64) (omega arith)
    ∙ same_ltb (k % 64) (n - 64 * (k / 64 % 64)) (k % 4096) n (λ h. omega arith) (λ h. omega arith)
    ∙ sym (cond-true (eqb (k / 4096) place) (ltb (k % 4096) n) (has old k) (eq-eqb (k / 4096) place here)))
    (λ (there : k / 4096 ≢ place).
    has_same old new k (word_beside filled (k / 64) (λ e. there (omega (arith, e))))
    ∙ sym (cond-false (eqb (k / 4096) place) (ltb (k % 4096) n) (has old k) (ne_eqb (k / 4096) place there)))
    (cases_eq (k / 4096) place)

-- which of the words are not 0, after 64 words were filled
pub some_filled : {old new : List ℕ} {place n : ℕ} (some : List ℕ) (words : ℕ) → IsFilled old place n new → words ≡ ones (n / 64 + min 1 (n % 64)) → place < length some → ((i : ℕ) → has some i ≡ ltb 0 (get_or old i 0)) →
    (i : ℕ) → has (set some place words) i ≡ ltb 0 (get_or new i 0)
some_filled {old} {new} {place} {n} some words filled words_are inside is i =
    has-set some place words i inside ∙ ⊎_elim
    (λ (here : i / 64 ≡ place).
    cond-true (eqb (i / 64) place) (eqb (bit_at words (i % 64)) 1) (has some i) (eq-eqb (i / 64) place here)
    ∙ ap (λ w. eqb (bit_at w (i % 64)) 1) words_are
    ∙ bit_of_ones (n / 64 + min 1 (n % 64)) (i % 64) (omega arith)
    ∙ same_ltb (i % 64) (n / 64 + min 1 (n % 64)) 0 (n - 64 * (i % 64)) (λ h. omega arith) (λ h. omega arith)
    ∙ sym (some_of_ones (n - 64 * (i % 64)))
    ∙ ap (ltb 0) (sym (word_filled filled i here)))
    (λ (there : i / 64 ≢ place).
    cond-false (eqb (i / 64) place) (eqb (bit_at words (i % 64)) 1) (has some i) (ne_eqb (i / 64) place there)
    ∙ is i
    ∙ ap (ltb 0) (sym (word_beside filled i there)))
    (cases_eq (i / 64) place)

-- none of the 64 words is filled
pub fill_none : (words : List ℕ) (place n j : ℕ) → get_or words j 0 ≡ cond (eqb (j / 64) place && ltb (j % 64) 0) (ones (n - 64 * (j % 64))) (get_or words j 0)
fill_none words place n j =
    sym (cond-false (eqb (j / 64) place && ltb (j % 64) 0) (ones (n - 64 * (j % 64))) (get_or words j 0) (and_right (eqb (j / 64) place) (ltb (j % 64) 0) (le-ltb (j % 64) 0 (omega arith))))

-- one more of the 64 words is filled
pub fill_more : (old words : List ℕ) (place n i : ℕ) → i < 64 → 64 * place + i < length words →
    ((j : ℕ) → get_or words j 0 ≡ cond (eqb (j / 64) place && ltb (j % 64) i) (ones (n - 64 * (j % 64))) (get_or old j 0)) →
    (j : ℕ) → get_or (set words (64 * place + i) (ones (n - 64 * i))) j 0 ≡ cond (eqb (j / 64) place && ltb (j % 64) (i + 1)) (ones (n - 64 * (j % 64))) (get_or old j 0)
fill_more old words place n i small inside before j =
    let value = ones (n - 64 * i) in
    ⊎_elim
    (λ (same : j ≡ 64 * place + i).
    let here : j / 64 ≡ place = omega arith in
    let at : j % 64 ≡ i = omega arith in
    ap (λ k. get_or (set words (64 * place + i) value) k 0) same
    ∙ get_or-set_same words (64 * place + i) value 0 inside
    ∙ ap (λ m. ones (n - 64 * m)) (sym at)
    ∙ sym (cond-true (eqb (j / 64) place && ltb (j % 64) (i + 1)) (ones (n - 64 * (j % 64))) (get_or old j 0)
    (and_from (eqb (j / 64) place) (ltb (j % 64) (i + 1)) (eq-eqb (j / 64) place here) (lt-ltb (j % 64) (i + 1) (omega arith)))))
    (λ (apart : j ≢ 64 * place + i).
    get_or-set_other words (64 * place + i) j value 0 apart
    ∙ before j
    ∙ ap (λ b. cond b (ones (n - 64 * (j % 64))) (get_or old j 0)) (⊎_elim
    (λ (here : j / 64 ≡ place). ap (λ b. eqb (j / 64) place && b) (same_ltb (j % 64) i (j % 64) (i + 1) (λ h. omega arith) (λ h. omega arith)))
    (λ (there : j / 64 ≢ place).
    and_left (eqb (j / 64) place) (ltb (j % 64) i) (ne_eqb (j / 64) place there) ∙ sym (and_left (eqb (j / 64) place) (ltb (j % 64) (i + 1)) (ne_eqb (j / 64) place there)))
    (cases_eq (j / 64) place)))
    (cases_eq j (64 * place + i))

-- a test and one that holds
and_true : (x y : Bool) → y ≡ true → (x && y) ≡ x
and_true true y h = h
and_true false y h = refl

-- all of the 64 words are filled
pub fill_all : (old words : List ℕ) (place n i : ℕ) → 64 ≤ i → length words ≡ length old →
    ((j : ℕ) → get_or words j 0 ≡ cond (eqb (j / 64) place && ltb (j % 64) i) (ones (n - 64 * (j % 64))) (get_or old j 0)) → IsFilled old place n words
fill_all old words place n i last size all = record {
  size = size;
  each = λ j. all j ∙ ap (λ b. cond b (ones (n - 64 * (j % 64))) (get_or old j 0)) (and_true (eqb (j / 64) place) (ltb (j % 64) i) (lt-ltb (j % 64) i (omega arith)));
}
