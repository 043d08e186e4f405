-- Counts of the numbers with a property: of none, of the same, and of one more or one less.
use Rattle.std.proofs.Common.{◌≡◌, ◌≢◌, ℕ, zero, suc, ◌+◌, ◌<◌, ◌≤◌, refl, sym, subst, arith, add-one, inl, inr, ⊎_elim}
use Rattle.attach_dict.proofs.Common.{cases_eq, IsCount}

-- the two ways of a count
abbrev Here : (P : ℕ → Type 0) (n c : ℕ) → Type 0
Here P n c = P n × ((fewer : ℕ) × (c ≡ suc fewer) × IsCount P n fewer)

abbrev NotHere : (P : ℕ → Type 0) (n c : ℕ) → Type 0
NotHere P n c = ¬ (P n) × IsCount P n c

-- there are no more than numbers
pub count_most : (P : ℕ → Type 0) (n c : ℕ) → IsCount P n c → c ≤ n
count_most P zero c h = omega (arith, h)
count_most P (suc n) c h = ⊎_elim
    (λ (some : Here P n c). omega (arith, some.1.1, count_most P n some.1.0 some.1.2))
    (λ (none : NotHere P n c). omega (arith, count_most P n c none.1))
    h

-- none
pub count_none : (P : ℕ → Type 0) (n : ℕ) → ((k : ℕ) → k < n → ¬ (P k)) → IsCount P n 0
count_none P zero none = refl
count_none P (suc n) none = inr (none n (omega arith), count_none P n (λ k below. none k (omega arith)))

-- the same numbers
pub count_same : (P Q : ℕ → Type 0) (n c : ℕ) → ((k : ℕ) → k < n → P k → Q k) → ((k : ℕ) → k < n → Q k → P k) → IsCount P n c → IsCount Q n c
count_same P Q zero c to back h = h
count_same P Q (suc n) c to back h = ⊎_elim
    (λ (some : Here P n c). inl (to n (omega arith) some.0, (some.1.0, some.1.1, count_same P Q n some.1.0 (λ k below. to k (omega arith)) (λ k below. back k (omega arith)) some.1.2)))
    (λ (none : NotHere P n c). inr ((λ q. none.0 (back n (omega arith) q)), count_same P Q n c (λ k below. to k (omega arith)) (λ k below. back k (omega arith)) none.1))
    h

-- one more
pub count_more : (P Q : ℕ → Type 0) (n c k : ℕ) → k < n → ¬ (P k) → Q k → ((j : ℕ) → j ≢ k → P j → Q j) → ((j : ℕ) → j ≢ k → Q j → P j) → IsCount P n c → IsCount Q n (c + 1)
count_more P Q zero c k below not here to back h = absurd (omega arith)
count_more P Q (suc n) c k below not here to back h = ⊎_elim
    (λ (last : n ≡ k). ⊎_elim
    (λ (some : Here P n c). absurd (not (subst P last some.0)))
    (λ (none : NotHere P n c). inl (subst Q (sym last) here, (c, add-one c, count_same P Q n c (λ j low. to j (λ is. omega (arith, is, low, last))) (λ j low. back j (λ is. omega (arith, is, low, last))) none.1)))
    h)
    (λ (other : n ≢ k).
    let low : k < n = omega (arith, below, other) in
    ⊎_elim
    (λ (some : Here P n c). inl (to n other some.0, (some.1.0 + 1, omega (arith, some.1.1), count_more P Q n some.1.0 k low not here to back some.1.2)))
    (λ (none : NotHere P n c). inr ((λ q. none.0 (back n other q)), count_more P Q n c k low not here to back none.1))
    h)
    (cases_eq n k)

-- one less
pub count_less : (P Q : ℕ → Type 0) (n c k : ℕ) → k < n → P k → ¬ (Q k) → ((j : ℕ) → j ≢ k → P j → Q j) → ((j : ℕ) → j ≢ k → Q j → P j) → IsCount P n c → (d : ℕ) × (c ≡ d + 1) × IsCount Q n d
count_less P Q zero c k below here not to back h = absurd (omega arith)
count_less P Q (suc n) c k below here not to back h = ⊎_elim
    (λ (last : n ≡ k). ⊎_elim
    (λ (some : Here P n c). (some.1.0, omega (arith, some.1.1), inr ((λ q. not (subst Q last q)), count_same P Q n some.1.0 (λ j low. to j (λ is. omega (arith, is, low, last))) (λ j low. back j (λ is. omega (arith, is, low, last))) some.1.2)))
    (λ (none : NotHere P n c). absurd (none.0 (subst P (sym last) here)))
    h)
    (λ (other : n ≢ k).
    let low : k < n = omega (arith, below, other) in
    ⊎_elim
    (λ (some : Here P n c).
    let fewer : (d : ℕ) × (some.1.0 ≡ d + 1) × IsCount Q n d = count_less P Q n some.1.0 k low here not to back some.1.2 in
    (fewer.0 + 1, omega (arith, some.1.1, fewer.1), inl (to n other some.0, (fewer.0, add-one fewer.0, fewer.2))))
    (λ (none : NotHere P n c).
    let fewer : (d : ℕ) × (c ≡ d + 1) × IsCount Q n d = count_less P Q n c k low here not to back none.1 in
    (fewer.0, fewer.1, inr ((λ q. none.0 (back n other q)), fewer.2)))
    h)
    (cases_eq n k)
