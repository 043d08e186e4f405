-- There is one least number with a property.
use Rattle.std.proofs.Common.{◌≡◌, ℕ, arith}
use Rattle.image_defects.specs.Least.{IsLeast}

pub least_once : (P : ℕ → Type 0) (a b : ℕ) → IsLeast P a → IsLeast P b → a ≡ b
least_once P a b p q = omega (arith, p.least b q.here, q.least a p.here)
