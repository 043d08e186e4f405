use Rattle.heap_indexes.proofs.CountedRoots.{law_of_passed_roots}
use Rattle.heap_indexes.proofs.adopting.law_of_passed_roots.Goals as goal

pub returns : goal.returns
returns c = law_of_passed_roots
