use Rattle.std.proofs.Common.{ℕ, ◌<◌}
use Rattle.defect_search.specs.Headers.{IsGoodIfSlab}
use Rattle.defect_search.proofs.header.bad_slab.Given as goal

abbrev pub invariant-loop-start : goal.invariant-loop-start
invariant-loop-start l = (k : ℕ) → k < l.start → IsGoodIfSlab l.words k
