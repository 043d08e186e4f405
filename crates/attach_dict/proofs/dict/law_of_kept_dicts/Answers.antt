use Rattle.attach_dict.proofs.Kept.{law_of_kept_dicts}
use Rattle.attach_dict.proofs.dict.law_of_kept_dicts.Goals as goal

pub returns : goal.returns
returns c = law_of_kept_dicts
