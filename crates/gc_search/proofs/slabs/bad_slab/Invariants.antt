use Rattle.std.proofs.Common.{ℕ, ◌<◌}
use Rattle.gc_search.specs.Known.{IsNormalIfSlab}
use Rattle.gc_search.proofs.slabs.bad_slab.Given as goal

abbrev pub invariant-loop-start : goal.invariant-loop-start
invariant-loop-start l = (k : ℕ) → k < l.start → IsNormalIfSlab l.words k
