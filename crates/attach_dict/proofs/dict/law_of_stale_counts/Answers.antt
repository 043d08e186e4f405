use Rattle.attach_dict.proofs.Stale.{law_of_stale_counts}
use Rattle.attach_dict.proofs.dict.law_of_stale_counts.Goals as goal

pub returns : goal.returns
returns c = law_of_stale_counts
