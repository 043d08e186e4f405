use Rattle.heap_check.proofs.Blank.{law_of_empty_heap}
use Rattle.heap_check.proofs.laws.law_of_empty_heap.Goals as goal

pub returns : goal.returns
returns c = law_of_empty_heap
