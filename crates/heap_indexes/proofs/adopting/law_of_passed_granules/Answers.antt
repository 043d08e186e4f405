use Rattle.heap_indexes.proofs.TakenExtents.{law_of_passed_granules}
use Rattle.heap_indexes.proofs.adopting.law_of_passed_granules.Goals as goal

pub returns : goal.returns
returns c = law_of_passed_granules
