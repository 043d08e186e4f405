use Rattle.std.proofs.Common.{ℕ, ◌<◌}
use Rattle.defect_search.specs.Pairs.{DoClash}
use Rattle.defect_search.proofs.shared.clash_of.Given as goal

abbrev pub invariant-loop-j : goal.invariant-loop-j
invariant-loop-j l = (k : ℕ) → k < l.j → ¬ (DoClash l.claims l.i k)
