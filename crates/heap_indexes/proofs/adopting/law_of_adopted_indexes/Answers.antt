use Rattle.heap_indexes.proofs.TakenExtents.{law_of_adopted_indexes}
use Rattle.heap_indexes.proofs.adopting.law_of_adopted_indexes.Goals as goal

pub returns : goal.returns
returns c = law_of_adopted_indexes
