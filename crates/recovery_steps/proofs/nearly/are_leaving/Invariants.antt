use Rattle.std.proofs.Common.{◌≡◌, ℕ, ◌<◌, true}
use Rattle.recovery_steps.proofs.Common.{tables_of, IsLeaving}
use Rattle.recovery_steps.proofs.nearly.are_leaving.Given as goal

abbrev pub invariant-loop-place : goal.invariant-loop-place
invariant-loop-place l = (k : ℕ) → k < l.place → ((tables_of l.words).header l.start).live k ≡ true → IsLeaving (tables_of l.words) l.start k
