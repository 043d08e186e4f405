use Rattle.image_check.proofs.ExactSummaries.{exact_of, none_loose}
use Rattle.image_check.proofs.laws.law_of_exact_summary.Goals as goal

pub returns : goal.returns
returns c = λ words summary sound is. (exact_of sound is, none_loose sound is)
