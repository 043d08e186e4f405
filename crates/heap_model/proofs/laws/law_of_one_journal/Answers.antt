use Rattle.heap_model.proofs.Placements.{law_of_one_journal}
use Rattle.heap_model.proofs.laws.law_of_one_journal.Goals as goal

pub returns : goal.returns
returns c = law_of_one_journal
