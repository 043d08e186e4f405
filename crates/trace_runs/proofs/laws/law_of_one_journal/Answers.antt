use Rattle.trace_runs.proofs.Settled.{law_of_one_journal}
use Rattle.trace_runs.proofs.laws.law_of_one_journal.Goals as goal

pub returns : goal.returns
returns c = law_of_one_journal
