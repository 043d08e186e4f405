-- Numbers below a bound that pass a test.
use Rattle.std.proofs.Common.{◌≡◌, ◌||◌, ℕ, zero, suc, ◌<◌, ◌≤◌, Bool, true, false, true≢false, refl, sym, ap, ◌∙◌, arith, ⊎_elim}
use Rattle.std.proofs.lemmas.Bool.{cases_lt, or_parts, or_cases}
use Rattle.heap_model.specs.Below.{any_below}

-- where one passes, some number does
pub any_below-true : (test : ℕ → Bool) (n k : ℕ) → k < n → test k ≡ true → any_below test n ≡ true
any_below-true test zero k below passes = absurd (omega arith)
any_below-true test (suc n) k below passes = ⊎_elim
    (λ (lower : k < n). ap (λ b. test n || b) (any_below-true test n k lower passes) ∙ or-true (test n))
    (λ (last : n ≤ k). let same : k ≡ n = omega (arith, below, last) in ap (λ b. b || any_below test n) (ap test (sym same) ∙ passes))
    (cases_lt k n)
  where
    or-true : (b : Bool) → (b || true) ≡ true
    or-true true = refl
    or-true false = refl

-- and where some does, one passes
pub any_below-some : (test : ℕ → Bool) (n : ℕ) → any_below test n ≡ true → (i : ℕ) × (i < n) × (test i ≡ true)
any_below-some test zero some = absurd (true≢false (sym some))
any_below-some test (suc n) some = ⊎_elim
    (λ (here : test n ≡ true). (n, omega arith, here))
    (λ (lower : any_below test n ≡ true). let found = any_below-some test n lower in (found.0, omega (arith, found.1), found.2))
    (or_cases (test n) (any_below test n) some)

-- where none does, each fails
pub any_below-each : (test : ℕ → Bool) (n : ℕ) → any_below test n ≡ false → (i : ℕ) → i < n → test i ≡ false
any_below-each test zero none i below = absurd (omega (arith, below))
any_below-each test (suc n) none i below =
    let parts = or_parts (test n) (any_below test n) none in
    ⊎_elim
    (λ (lower : i < n). any_below-each test n parts.1 i lower)
    (λ (last : n ≤ i). let same : i ≡ n = omega (arith, below, last) in ap test same ∙ parts.0)
    (cases_lt i n)
