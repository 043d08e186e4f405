-- The numbers below a bound that pass a test.
use Rattle.std.proofs.Common.{◌≡◌, ◌+◌, ◌<◌, ◌≤◌, ◌++◌, ℕ, zero, suc, Bool, true, false, cond, List, [], ◌∷◌, length, get_or, ⊎_elim, refl, sym, ap, ◌∙◌, subst, add-one, arith, length-append}
use Rattle.std.proofs.Math.ListN.{get_or-append}
use Rattle.std.proofs.Math.Seq.{get_or-append_seam}
use Rattle.slab_morph.proofs.Common.{cases_lt, numbers_below}

-- one number more, by what the test says of it
pub numbers_more : (test : ℕ → Bool) (n : ℕ) (passes : Bool) → test n ≡ passes → numbers_below test (n + 1) ≡ numbers_below test n ++ cond passes (n ∷ []) []
numbers_more test n passes is = ap (numbers_below test) (add-one n) ∙ ap (λ b. numbers_below test n ++ cond b (n ∷ []) []) is

pub count_more : (test : ℕ → Bool) (n : ℕ) (passes : Bool) → test n ≡ passes → length (numbers_below test (n + 1)) ≡ length (numbers_below test n) + cond passes 1 0
count_more test n passes is = ap length (numbers_more test n passes is) ∙ length-append (numbers_below test n) (cond passes (n ∷ []) []) ∙ ap (λ k. length (numbers_below test n) + k) (one passes)
  where
    one : (b : Bool) → length (cond b (n ∷ []) []) ≡ cond b 1 0
    one true = refl
    one false = refl

-- where none passes there are none
pub none_below : (test : ℕ → Bool) (n : ℕ) → ((i : ℕ) → i < n → test i ≡ false) → length (numbers_below test n) ≡ 0
none_below test zero none = refl
none_below test (suc n) none =
    ap (λ b. length (numbers_below test n ++ cond b (n ∷ []) [])) (none n (omega arith))
    ∙ length-append (numbers_below test n) []
    ∙ omega (arith, none_below test n (λ i less. none i (omega (arith, less))))

-- each of them passes, and is below the bound
pub record Passes (test : ℕ → Bool) (n number : ℕ) : Type 0 where
  pub is : test number ≡ true
  pub below : number < n

more_pass : (test : ℕ → Bool) (n : ℕ) (numbers : List ℕ) (passes : Bool) → test n ≡ passes → ((place : ℕ) → place < length numbers → Passes test n (get_or numbers place 0)) →
    (place : ℕ) → place < length (numbers ++ cond passes (n ∷ []) []) → Passes test (suc n) (get_or (numbers ++ cond passes (n ∷ []) []) place 0)
more_pass test n numbers true is each place less = ⊎_elim
    (λ (old : place < length numbers).
    let here = each place old in
    subst (Passes test (suc n)) (sym (get_or-append numbers (n ∷ []) 0 place old)) (record { is = here.is; below = omega (arith, here.below) }))
    (λ (last : length numbers ≤ place).
    let at_end : length numbers ≡ place = omega (arith, last, less, length-append numbers (n ∷ [])) in
    subst (λ (p : ℕ). Passes test (suc n) (get_or (numbers ++ (n ∷ [])) p 0)) at_end
    (subst (Passes test (suc n)) (sym (get_or-append_seam numbers n [] 0)) (record { is = is; below = omega arith })))
    (cases_lt place (length numbers))
more_pass test n numbers false is each place less =
    let old : place < length numbers = omega (arith, less, length-append numbers []) in
    let here = each place old in
    subst (Passes test (suc n)) (sym (get_or-append numbers [] 0 place old)) (record { is = here.is; below = omega (arith, here.below) })

pub numbers_pass : (test : ℕ → Bool) (n place : ℕ) → place < length (numbers_below test n) → Passes test n (get_or (numbers_below test n) place 0)
numbers_pass test zero place less = absurd (omega (arith, less))
numbers_pass test (suc n) place less = more_pass test n (numbers_below test n) (test n) refl (numbers_pass test n) place less

-- a number that passes stands behind those below it
pub record IsAmong (numbers : List ℕ) (place number : ℕ) : Type 0 where
  pub below : place < length numbers
  pub is : get_or numbers place 0 ≡ number

among_more : (numbers more : List ℕ) (place number : ℕ) → IsAmong numbers place number → IsAmong (numbers ++ more) place number
among_more numbers more place number here = record {
  below = omega (arith, here.below, length-append numbers more);
  is = get_or-append numbers more 0 place here.below ∙ here.is;
}

pub numbers_among : (test : ℕ → Bool) (n number : ℕ) → test number ≡ true → number < n → IsAmong (numbers_below test n) (length (numbers_below test number)) number
numbers_among test zero number is below = absurd (omega (arith, below))
numbers_among test (suc n) number is below = ⊎_elim
    (λ (less : number < n). among_more (numbers_below test n) (cond (test n) (n ∷ []) []) (length (numbers_below test number)) number (numbers_among test n number is less))
    (λ (last : n ≤ number).
    let here : n ≡ number = omega (arith, last, below) in
    subst (λ (m : ℕ). IsAmong (numbers_below test (suc n)) (length (numbers_below test m)) m) here
    (subst (λ (b : Bool). IsAmong (numbers_below test n ++ cond b (n ∷ []) []) (length (numbers_below test n)) n) (sym (ap test here ∙ is))
    (record { below = omega (arith, length-append (numbers_below test n) (n ∷ [])); is = get_or-append_seam (numbers_below test n) n [] 0 })))
    (cases_lt number n)

-- there are no more of them below a lower bound
pub numbers_rise : (test : ℕ → Bool) (m n : ℕ) → m ≤ n → length (numbers_below test m) ≤ length (numbers_below test n)
numbers_rise test m zero less = let none : m ≡ 0 = omega (arith, less) in omega (arith, ap (λ k. length (numbers_below test k)) none)
numbers_rise test m (suc n) less = ⊎_elim
    (λ (low : m < suc n). omega (arith, numbers_rise test m n (omega (arith, low)), length-append (numbers_below test n) (cond (test n) (n ∷ []) [])))
    (λ (high : suc n ≤ m). let same : m ≡ suc n = omega (arith, less, high) in omega (arith, ap (λ k. length (numbers_below test k)) same))
    (cases_lt m (suc n))

-- each stands behind those below it, so none stands twice
place_more : (test : ℕ → Bool) (n : ℕ) (numbers : List ℕ) (passes : Bool) → numbers ≡ numbers_below test n → ((place : ℕ) → place < length numbers → length (numbers_below test (get_or numbers place 0)) ≡ place) →
    (place : ℕ) → place < length (numbers ++ cond passes (n ∷ []) []) → length (numbers_below test (get_or (numbers ++ cond passes (n ∷ []) []) place 0)) ≡ place
place_more test n numbers true is each place less = ⊎_elim
    (λ (old : place < length numbers). ap (λ k. length (numbers_below test k)) (get_or-append numbers (n ∷ []) 0 place old) ∙ each place old)
    (λ (last : length numbers ≤ place).
    let at_end : place ≡ length numbers = omega (arith, last, less, length-append numbers (n ∷ [])) in
    ap (λ p. length (numbers_below test (get_or (numbers ++ (n ∷ [])) p 0))) at_end
    ∙ ap (λ k. length (numbers_below test k)) (get_or-append_seam numbers n [] 0)
    ∙ ap length (sym is)
    ∙ sym at_end)
    (cases_lt place (length numbers))
place_more test n numbers false is each place less =
    let old : place < length numbers = omega (arith, less, length-append numbers []) in
    ap (λ k. length (numbers_below test k)) (get_or-append numbers [] 0 place old) ∙ each place old

pub numbers_place : (test : ℕ → Bool) (n place : ℕ) → place < length (numbers_below test n) → length (numbers_below test (get_or (numbers_below test n) place 0)) ≡ place
numbers_place test zero place less = absurd (omega (arith, less))
numbers_place test (suc n) place less = place_more test n (numbers_below test n) (test n) refl (numbers_place test n) place less

pub numbers_once : (test : ℕ → Bool) (n place other : ℕ) → place < length (numbers_below test n) → other < length (numbers_below test n) →
    get_or (numbers_below test n) place 0 ≡ get_or (numbers_below test n) other 0 → place ≡ other
numbers_once test n place other below under same = sym (numbers_place test n place below) ∙ ap (λ k. length (numbers_below test k)) same ∙ numbers_place test n other under
