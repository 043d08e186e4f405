use Rattle.std.proofs.Common.{ℕ, ◌+◌, ◌<◌, ◌≤◌}
use Rattle.defect_search.specs.Claims.{claim_in}
use Rattle.defect_search.proofs.shared.are_spread.Given as goal

abbrev pub invariant-loop-i : goal.invariant-loop-i
invariant-loop-i l = (k : ℕ) → k + 1 < l.i → (claim_in l.sorted k).at + (claim_in l.sorted k).size ≤ (claim_in l.sorted (k + 1)).at
