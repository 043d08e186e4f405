use Rattle.dict_runs.proofs.Settled.{law_of_one_run}
use Rattle.dict_runs.proofs.laws.law_of_one_run.Goals as goal

pub returns : goal.returns
returns c = law_of_one_run
