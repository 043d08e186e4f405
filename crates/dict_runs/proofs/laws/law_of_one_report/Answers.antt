use Rattle.dict_runs.proofs.Settled.{law_of_one_report}
use Rattle.dict_runs.proofs.laws.law_of_one_report.Goals as goal

pub returns : goal.returns
returns c = law_of_one_report
