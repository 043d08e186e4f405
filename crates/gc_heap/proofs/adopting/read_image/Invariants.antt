use Rattle.std.proofs.Common.{◌≡◌, ◌-◌, ◌≤◌}
use Rattle.pmem_lines.specs.Pmem.{words_of}
use Rattle.heap_check.specs.Image.{bounds_of}
use Rattle.gc_heap.specs.Adopting.{AreReadTo}
use Rattle.gc_heap.proofs.adopting.read_image.Given as goal

abbrev pub invariant-loop-root : goal.invariant-loop-root
invariant-loop-root g l = record {
  counted : AreReadTo (words_of (g.P.Pmem.state l.device)) l.root 0 l.indexes;
  stacks : l.indexes.supply.stacks ≡ l.fn.indexes.supply.stacks;
}

abbrev pub invariant-loop-extent : goal.invariant-loop-extent
invariant-loop-extent g l = record {
  read : AreReadTo (words_of (g.P.Pmem.state l.device)) (bounds_of (words_of (g.P.Pmem.state l.device))).roots l.from l.indexes;
  stacks : l.indexes.supply.stacks ≡ l.fn.indexes.supply.stacks;
  below : l.from ≤ l.log.granules;
}

abbrev pub decreases-loop-extent : goal.decreases-loop-extent
decreases-loop-extent g l = l.log.granules - l.from
