use Rattle.gc_check.proofs.Faultless.{faultless_of}
use Rattle.gc_check.proofs.Order.{no_defect}
use Rattle.gc_check.proofs.laws.law_of_no_gc_defect.Goals as goal

pub returns : goal.returns
returns c = λ words d sound. no_defect words d (faultless_of words sound)
