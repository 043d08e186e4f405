use Rattle.image_defects.proofs.Order.{one_defect}
use Rattle.image_defects.proofs.laws.law_of_one_defect.Goals as goal

pub returns : goal.returns
returns c = λ words d e. one_defect words d e
