use Rattle.heap_check.proofs.Blank.{law_of_steady}
use Rattle.heap_check.proofs.laws.law_of_steady.Goals as goal

pub returns : goal.returns
returns c = law_of_steady
