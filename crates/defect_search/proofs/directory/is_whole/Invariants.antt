use Rattle.defect_search.proofs.DirectoryBytes.{IsSameWhole}
use Rattle.defect_search.proofs.directory.is_whole.Given as goal

abbrev pub invariant-loop-byte : goal.invariant-loop-byte
invariant-loop-byte l = IsSameWhole l.directory l._byte l.rest
