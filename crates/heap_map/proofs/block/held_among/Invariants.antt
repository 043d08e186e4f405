use Rattle.std.proofs.Common.{◌≢◌, ◌<◌, ℕ}
use Rattle.defect_search.specs.Claims.{claim_in}
use Rattle.heap_map.proofs.block.held_among.Given as goal

abbrev pub invariant-loop-i : goal.invariant-loop-i
invariant-loop-i l = (k : ℕ) → k < l.i → (claim_in l.claims k).root ≢ l.root
