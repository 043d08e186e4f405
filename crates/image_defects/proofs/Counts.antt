-- Counts: one at most exactly where the count is not above 1.
use Rattle.std.proofs.Common.{◌≡◌, ◌≢◌, ℕ, zero, suc, ◌+◌, ◌<◌, ◌≤◌, sym, subst, ◌∙◌, arith, add-one, inl, inr, ⊎_elim}
use Rattle.std.proofs.lemmas.Bool.{cases_eq}
use Rattle.image_tables.specs.Tables.{Tables}
use Rattle.heap_check.specs.Sound.{AtMostOne, IsLooseLarge, IsEmptySlab, IsMorphing, IsDoneSlab, AreFewLoose}
use Rattle.image_defects.specs.declared.found.Loose.{Loose}
use Rattle.image_defects.specs.Count.{IsCount}
use Rattle.image_defects.specs.Loose.{AreLoose, IsTooMany}

pub count_here : (P : ℕ → Type 0) (n c : ℕ) → P n → IsCount P n c → IsCount P (n + 1) (c + 1)
count_here P n c here h = subst (λ m. IsCount P m (c + 1)) (sym (add-one n)) (inl (here, (c, add-one c, h)))

pub count_not : (P : ℕ → Type 0) (n c : ℕ) → ¬ (P n) → IsCount P n c → IsCount P (n + 1) c
count_not P n c none h = subst (λ m. IsCount P m c) (sym (add-one n)) (inr (none, h))

pub none_below : (P : ℕ → Type 0) (n c : ℕ) → IsCount P n c → c ≡ 0 → (k : ℕ) → k < n → ¬ (P k)
none_below P zero c h is k below p = absurd (omega arith)
none_below P (suc n) c h is k below p = ⊎_elim
    (λ (some : P n × ((fewer : ℕ) × (c ≡ suc fewer) × IsCount P n fewer)). omega (arith, some.1.1, is))
    (λ (none : ¬ (P n) × IsCount P n c). ⊎_elim
    (λ (same : k ≡ n). none.0 (subst P same p))
    (λ (other : k ≢ n). none_below P n c none.1 is k (omega arith) p)
    (cases_eq k n))
    h

pub some_below : (P : ℕ → Type 0) (n c : ℕ) → IsCount P n c → 0 < c → (k : ℕ) × (k < n) × P k
some_below P zero c h some = absurd (omega (arith, h))
some_below P (suc n) c h some = ⊎_elim
    (λ (here : P n × ((fewer : ℕ) × (c ≡ suc fewer) × IsCount P n fewer)). (n, omega arith, here.0))
    (λ (none : ¬ (P n) × IsCount P n c). let found = some_below P n c none.1 some in (found.0, omega (arith, found.1), found.2))
    h

pub one_below : (P : ℕ → Type 0) (n c : ℕ) → IsCount P n c → c ≤ 1 → (j k : ℕ) → j < n → k < n → P j → P k → j ≡ k
one_below P zero c h few j k jb kb pj pk = absurd (omega arith)
one_below P (suc n) c h few j k jb kb pj pk = ⊎_elim
    (λ (some : P n × ((fewer : ℕ) × (c ≡ suc fewer) × IsCount P n fewer)).
    let last : (i : ℕ) → i < suc n → P i → i ≡ n = λ i below p. ⊎_elim
    (λ (same : i ≡ n). same)
    (λ (other : i ≢ n). absurd (none_below P n some.1.0 some.1.2 (omega (arith, some.1.1)) i (omega arith) p))
    (cases_eq i n) in
    last j jb pj ∙ sym (last k kb pk))
    (λ (none : ¬ (P n) × IsCount P n c).
    let before : (i : ℕ) → i < suc n → P i → i < n = λ i below p. ⊎_elim
    (λ (same : i ≡ n). absurd (none.0 (subst P same p)))
    (λ (other : i ≢ n). omega arith)
    (cases_eq i n) in
    one_below P n c none.1 few j k (before j jb pj) (before k kb pk) pj pk)
    h

pub not_two : (P : ℕ → Type 0) (n c : ℕ) → IsCount P n c → 1 < c → ¬ (AtMostOne P)
not_two P zero c h many one = absurd (omega (arith, h))
not_two P (suc n) c h many one = ⊎_elim
    (λ (some : P n × ((fewer : ℕ) × (c ≡ suc fewer) × IsCount P n fewer)).
    let found = some_below P n some.1.0 some.1.2 (omega (arith, some.1.1)) in
    omega (arith, one.same found.0 n found.2 some.0, found.1))
    (λ (none : ¬ (P n) × IsCount P n c). not_two P n c none.1 many one)
    h

pub at_most : (P : ℕ → Type 0) (n c : ℕ) → ((k : ℕ) → P k → k < n) → IsCount P n c → c ≤ 1 → AtMostOne P
at_most P n c bounded h few = record { same = λ j k pj pk. one_below P n c h few j k (bounded j pj) (bounded k pk) pj pk }

-- a count is one number
pub count_once : (P : ℕ → Type 0) (n c d : ℕ) → IsCount P n c → IsCount P n d → c ≡ d
count_once P zero c d h g = h ∙ sym g
count_once P (suc n) c d h g = ⊎_elim
    (λ (some : P n × ((fewer : ℕ) × (c ≡ suc fewer) × IsCount P n fewer)). ⊎_elim
    (λ (other : P n × ((fewer : ℕ) × (d ≡ suc fewer) × IsCount P n fewer)). omega (arith, some.1.1, other.1.1, count_once P n some.1.0 other.1.0 some.1.2 other.1.2))
    (λ (none : ¬ (P n) × IsCount P n d). absurd (none.0 some.0))
    g)
    (λ (none : ¬ (P n) × IsCount P n c). ⊎_elim
    (λ (other : P n × ((fewer : ℕ) × (d ≡ suc fewer) × IsCount P n fewer)). absurd (none.0 other.0))
    (λ (also : ¬ (P n) × IsCount P n d). count_once P n c d none.1 also.1)
    g)
    h

-- the four counts

pub not_many : (t : Tables) (n : ℕ) (loose : Loose) → AreLoose t n loose → AreFewLoose t → ¬ (IsTooMany loose)
not_many t n loose are few many = ⊎_elim
    (λ a. not_two (IsLooseLarge t) n loose.large are.large a few.large)
    (λ rest. ⊎_elim
    (λ b. not_two (IsEmptySlab t) n loose.empty are.empty b few.empty)
    (λ last. ⊎_elim
    (λ c. not_two (IsMorphing t) n loose.morphing are.morphing c few.morphing)
    (λ d. not_two (IsDoneSlab t) n loose.done are.done d few.done)
    last)
    rest)
    many
