-- Live extents in order of their starts: where no neighbours share a granule, none do.
use Rattle.std.proofs.Common.{◌≡◌, ◌≢◌, ◌⊎◌, ℕ, zero, suc, ◌+◌, ◌-◌, ◌<◌, ◌≤◌, List, arith, inl, inr, ⊎_elim, sym, ap, subst, ◌∙◌}
use Rattle.defect_search.proofs.Common.{cases_eq, cases_lt, granules_in, Tables, tables_of, granules_at, Covers, AreDisjoint, IsOverlap}
use Rattle.image_reading.specs.Extents.{HasExtents}

-- what is known behind the extents that start below a granule: the last one and where it ends, or that there is none
pub record IsScanned (t : Tables) (start last end : ℕ) : Type 0 where
  pub clear : (first second : ℕ) → second < start → ¬ (IsOverlap t first second)
  pub live : end ≢ 0 → (last < start) × (0 < granules_at t last) × (end ≡ last + granules_at t last)
  pub none : end ≡ 0 → (k : ℕ) → k < start → granules_at t k ≡ 0
  pub between : end ≢ 0 → (k : ℕ) → last < k → k < start → granules_at t k ≡ 0

-- of the granules behind one, the first at which something starts
next_start : (g : ℕ → ℕ) (start d : ℕ) → ((k : ℕ) → start < k → k ≤ start + d → g k ≡ 0) ⊎ ((next : ℕ) × (start < next) × (next ≤ start + d) × (0 < g next) × ((k : ℕ) → start < k → k < next → g k ≡ 0))
next_start g start zero = inl (λ k low high. absurd (omega arith))
next_start g start (suc d) = ⊎_elim
    (λ (none : (k : ℕ) → start < k → k ≤ start + d → g k ≡ 0). ⊎_elim
    (λ (empty : g (start + suc d) ≡ 0). inl (λ k low high. ⊎_elim (λ (same : k ≡ start + suc d). ap g same ∙ empty) (λ (other : k ≢ start + suc d). none k low (omega arith)) (cases_eq k (start + suc d))))
    (λ (some : g (start + suc d) ≢ 0). inr (start + suc d, omega arith, omega arith, omega arith, λ k low high. none k low (omega arith)))
    (cases_eq (g (start + suc d)) 0))
    (λ found. inr (found.0, found.1, omega (arith, found.2), found.3, found.4))
    (next_start g start d)

-- an extent ends before each later one begins
ends_before : (t : Tables) → ((first second : ℕ) → ¬ (IsOverlap t first second)) → (start d : ℕ) → 0 < granules_at t (start + suc d) → start + granules_at t start ≤ start + suc d
ends_before t clear start d some = ⊎_elim
    (λ (none : (k : ℕ) → start < k → k ≤ start + suc d → granules_at t k ≡ 0). absurd (omega (arith, none (start + suc d) (omega arith) (omega arith))))
    (λ found. ⊎_elim
    (λ (inside : found.0 < start + granules_at t start). absurd (clear start found.0 (record { live = found.3; behind = found.1; between = found.4; shares = inside })))
    (λ (behind : start + granules_at t start ≤ found.0). omega (arith, found.2))
    (cases_lt found.0 (start + granules_at t start)))
    (next_start (granules_at t) start (suc d))

pub disjoint_of : (words : List ℕ) (n last end : ℕ) → HasExtents words → granules_in words ≤ n → IsScanned (tables_of words) n last end → AreDisjoint (tables_of words)
disjoint_of words n last end extents all s =
    let t = tables_of words in
    let clear : (first second : ℕ) → ¬ (IsOverlap t first second) = λ first second o. s.clear first second (omega (arith, extents.inside second o.live, o.live)) o in
    let order : (start other k : ℕ) → start < other → Covers t start k → Covers t other k → ⊥ = λ start other k less one two.
    let d = other - start - 1 in
    let there : start + suc d ≡ other = omega arith in
    let live : 0 < granules_at t other = omega (arith, two.low, two.high) in
    omega (arith, one.high, two.low, there, ends_before t clear start d (subst (λ o. 0 < granules_at t o) (sym there) live)) in
    λ start other k one two. ⊎_elim
    (λ (same : start ≡ other). same)
    (λ (differ : start ≢ other). ⊎_elim
    (λ (less : start < other). absurd (order start other k less one two))
    (λ (more : other ≤ start). absurd (order other start k (omega arith) two one))
    (cases_lt start other))
    (cases_eq start other)
