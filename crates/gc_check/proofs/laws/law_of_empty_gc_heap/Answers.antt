use Rattle.gc_check.proofs.Blank.{law_of_empty_gc_heap}
use Rattle.gc_check.proofs.laws.law_of_empty_gc_heap.Goals as goal

pub returns : goal.returns
returns c = law_of_empty_gc_heap
