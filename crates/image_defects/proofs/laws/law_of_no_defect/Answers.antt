use Rattle.image_defects.proofs.Faultless.{faultless_of}
use Rattle.image_defects.proofs.Order.{no_defect}
use Rattle.image_defects.proofs.laws.law_of_no_defect.Goals as goal

pub returns : goal.returns
returns c = λ words d sound. no_defect words d (faultless_of words sound)
