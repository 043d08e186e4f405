-- Lists whose items have numbers, one item longer.
use Rattle.std.proofs.Common.{◌≡◌, ℕ, zero, suc, ◌+◌, ◌<◌, List, [], ◌∷◌, ◌++◌, length, subst, arith}
use Rattle.trace_runs.specs.Each.{EachFrom}

pub EachFrom-more : {A : Type 0} (P : ℕ → A → Type 0) (n : ℕ) (xs : List A) (x : A) → EachFrom P n xs → P (n + length xs) x → EachFrom P n (xs ++ x ∷ [])
EachFrom-more P n [] x each more = (subst (λ k. P k x) (let here : n + 0 ≡ n = omega arith in here) more, tt)
EachFrom-more P n (y ∷ ys) x each more =
    (each.0, EachFrom-more P (suc n) ys x each.1 (subst (λ k. P k x) (let next : n + suc (length ys) ≡ suc n + length ys = omega arith in next) more))

-- at each place it holds of some item
pub EachFrom-at : {A : Type 0} (P : ℕ → A → Type 0) (n : ℕ) (xs : List A) (k : ℕ) → EachFrom P n xs → k < length xs → (x : A) × P (n + k) x
EachFrom-at P n [] k each below = absurd (omega arith)
EachFrom-at P n (x ∷ xs) zero each below = (x, subst (λ m. P m x) (let here : n ≡ n + 0 = omega arith in here) each.0)
EachFrom-at P n (x ∷ xs) (suc k) each below =
    let later = EachFrom-at P (suc n) xs k each.1 (omega arith) in
    (later.0, subst (λ m. P m later.0) (let next : suc n + k ≡ n + suc k = omega arith in next) later.1)
