use Rattle.image_defects.proofs.Totals.{one_summary}
use Rattle.image_defects.proofs.laws.law_of_one_summary.Goals as goal

pub returns : goal.returns
returns c = λ words summary other. one_summary words summary other
