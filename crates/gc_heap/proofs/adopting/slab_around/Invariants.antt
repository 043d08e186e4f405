use Rattle.std.proofs.Common.{ℕ, ◌≤◌}
use Rattle.pmem_lines.specs.Pmem.{words_of}
use Rattle.gc_heap.specs.Adopting.{IsSlabAround}
use Rattle.gc_heap.proofs.adopting.slab_around.Given as goal

abbrev pub invariant-loop-start : goal.invariant-loop-start
invariant-loop-start g l = record {
  high : l.start ≤ l.granule;
  above : (s : ℕ) → IsSlabAround (words_of (g.P.Pmem.state l.device)) l.granule s → s ≤ l.start;
}

abbrev pub decreases-loop-start : goal.decreases-loop-start
decreases-loop-start g l = l.start
