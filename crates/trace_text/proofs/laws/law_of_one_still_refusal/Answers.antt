use Rattle.trace_text.proofs.OneMeaning.{law_of_one_still_refusal}
use Rattle.trace_text.proofs.laws.law_of_one_still_refusal.Goals as goal

pub returns : goal.returns
returns c = law_of_one_still_refusal
