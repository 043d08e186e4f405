-- Free granules in a row, and the best fit among them. A set of granules is told by what holds of its members.
use Rattle.std.specs.Prelude.{◌≡◌, ℕ, ◌+◌, ◌<◌, ◌≤◌}

-- these granules, n from a start on, are all free
pub record IsFreeRow (Free : ℕ → Type 0) (start n : ℕ) : Type 0 where
  pub each : (k : ℕ) → start ≤ k → k < start + n → Free k

-- a free run: granules in a row that are free, and cannot be made longer
pub record IsFreeRun (Free : ℕ → Type 0) (start n : ℕ) : Type 0 where
  pub some : 0 < n
  pub row : IsFreeRow Free start n
  pub begins : (k : ℕ) → k + 1 ≡ start → ¬ (Free k)
  pub ends : ¬ (Free (start + n))

-- the best fit of n granules begins here: the shortest free run that has at least so many, the lowest among equals
pub record IsBestFit (Free : ℕ → Type 0) (n start : ℕ) : Type 0 where
  pub length : ℕ
  pub run : IsFreeRun Free start length
  pub enough : n ≤ length
  pub shortest : (other long : ℕ) → IsFreeRun Free other long → n ≤ long → length ≤ long
  pub lowest : (other : ℕ) → IsFreeRun Free other length → start ≤ other

-- no free run has n granules
pub record HasNoFit (Free : ℕ → Type 0) (n : ℕ) : Type 0 where
  pub none : (start long : ℕ) → IsFreeRun Free start long → long < n
