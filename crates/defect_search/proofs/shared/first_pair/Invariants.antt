use Rattle.std.proofs.Common.{ℕ, ◌<◌}
use Rattle.image_defects.specs.Least.{HasNone}
use Rattle.defect_search.specs.Pairs.{DoClash}
use Rattle.defect_search.proofs.shared.first_pair.Given as goal

abbrev pub invariant-loop-i : goal.invariant-loop-i
invariant-loop-i l = (k : ℕ) → k < l.i → HasNone (DoClash l.claims k)
