-- Lists of addresses and of numbers: what they have.
use Rattle.std.proofs.Common.{◌≡◌, ◌≢◌, ◌⊎◌, ℕ, ◌-◌, ◌<◌, zero, suc, List, [], ◌∷◌, length, slice_index_or, refl, arith, inl, inr, ⊎_elim}
use Rattle.block_supply.proofs.Common.{cases_eq, Has}

-- a list has a number or not
pub cases_Has : (xs : List ℕ) (n : ℕ) → Has xs n ⊎ (¬ (Has xs n))
cases_Has [] n = inr (λ has. has)
cases_Has (x ∷ xs) n = ⊎_elim
    (λ (is : n ≡ x). inl (inl is))
    (λ (differ : n ≢ x). ⊎_elim (λ has. inl (inr has)) (λ none. inr (λ has. ⊎_elim differ none has)) (cases_Has xs n))
    (cases_eq n x)

-- it has what stands at a place
pub Has-index : (xs : List ℕ) (i : ℕ) → i < length xs → Has xs (slice_index_or xs i 0)
Has-index [] i below = absurd (omega (arith, below))
Has-index (x ∷ xs) zero below = inl refl
Has-index (x ∷ xs) (suc i) below = inr (Has-index xs i (omega (arith, below)))
