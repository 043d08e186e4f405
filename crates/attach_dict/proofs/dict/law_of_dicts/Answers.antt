use Rattle.attach_dict.proofs.Counting.{law_of_dicts}
use Rattle.attach_dict.proofs.dict.law_of_dicts.Goals as goal

pub returns : goal.returns
returns c = law_of_dicts
