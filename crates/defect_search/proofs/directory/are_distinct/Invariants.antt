use Rattle.defect_search.proofs.DirectoryBytes.{AreNewBelow}
use Rattle.defect_search.proofs.directory.are_distinct.Given as goal

abbrev pub invariant-loop-at : goal.invariant-loop-at
invariant-loop-at l = AreNewBelow l.chunks l.at
