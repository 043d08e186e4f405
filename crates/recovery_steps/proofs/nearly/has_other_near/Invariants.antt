use Rattle.std.proofs.Common.{◌≢◌, ℕ, ◌<◌}
use Rattle.recovery_steps.proofs.Common.{tables_of, IsNearlyDone}
use Rattle.recovery_steps.proofs.nearly.has_other_near.Given as goal

abbrev pub invariant-loop-start : goal.invariant-loop-start
invariant-loop-start l = (k : ℕ) → k < l.start → k ≢ l.done → ¬ (IsNearlyDone (tables_of l.words) k)
