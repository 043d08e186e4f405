use Rattle.gc_check.proofs.Order.{one_defect}
use Rattle.gc_check.proofs.laws.law_of_one_gc_defect.Goals as goal

pub returns : goal.returns
returns c = λ words d e. one_defect words d e
