-- Lowest numbers that pass a test.
use Rattle.std.proofs.Common.{◌↔◌, ℕ, ◌+◌, ◌-◌, List, [], ◌∷◌, ⊎_elim, inl, inr}
use Rattle.heap_model.specs.Placement.{AreLowest}

-- the lowest numbers that pass are those that pass another test of the same meaning
pub AreLowest-same : (Passes Others : ℕ → Type 0) (low most : ℕ) (numbers : List ℕ) → ((n : ℕ) → Passes n ↔ Others n) → AreLowest Passes low most numbers → AreLowest Others low most numbers
AreLowest-same Passes Others low most [] same lowest = ⊎_elim (λ none. inl none) (λ none. inr (λ number from passes. none number from ((same number).1 passes))) lowest
AreLowest-same Passes Others low most (number ∷ numbers) same lowest = (
  lowest.0,
  record { from = lowest.1.from; passes = (same number).0 lowest.1.passes; first = λ lower from less passes. lowest.1.first lower from less ((same lower).1 passes) },
  AreLowest-same Passes Others (number + 1) (most - 1) numbers same lowest.2,
)
