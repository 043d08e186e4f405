use Rattle.defect_search.proofs.SlabLists.{AreSlabsBelow}
use Rattle.defect_search.proofs.header.slabs_of.Given as goal

abbrev pub invariant-loop-start : goal.invariant-loop-start
invariant-loop-start l = AreSlabsBelow l.words l.start l.slabs.items
