use Rattle.std.proofs.Common.{ℕ, ◌<◌}
use Rattle.image_tables.specs.Tables.{tables_of}
use Rattle.recovery_steps.specs.Kinds.{IsLooseOf}
use Rattle.recovery_steps.proofs.search.find.Given as goal

abbrev pub invariant-loop-start : goal.invariant-loop-start
invariant-loop-start l = (k : ℕ) → k < l.start → ¬ (IsLooseOf l.kind (tables_of l.words) k)
