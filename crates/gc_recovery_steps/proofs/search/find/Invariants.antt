use Rattle.std.proofs.Common.{ℕ, ◌<◌}
use Rattle.gc_check.specs.Heap.{gc_tables}
use Rattle.gc_recovery_steps.specs.Kinds.{IsLooseOf}
use Rattle.gc_recovery_steps.proofs.search.find.Given as goal

abbrev pub invariant-loop-start : goal.invariant-loop-start
invariant-loop-start l = (k : ℕ) → k < l.start → ¬ (IsLooseOf l.kind (gc_tables l.words) k)
