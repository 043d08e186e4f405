use Rattle.std.proofs.Common.{◌≡◌, ◌≢◌, ℕ, ◌<◌}
use Rattle.defect_search.specs.Claims.{claim_in}
use Rattle.defect_search.proofs.claim.has_block.Given as goal

abbrev pub invariant-loop-i : goal.invariant-loop-i
invariant-loop-i l = (k : ℕ) → k < l.i → (claim_in l.sorted k).at ≡ l.at → (claim_in l.sorted k).size ≢ l.size
