use Rattle.dict_text.proofs.OneMeaning.{law_of_one_script}
use Rattle.dict_text.proofs.laws.law_of_one_script.Goals as goal

pub returns : goal.returns
returns c = law_of_one_script
