use Rattle.std.proofs.Common.{arith, refl}
use Rattle.std.proofs.lemmas.Grind.{common_steps}
use Rattle.dict_text.proofs.Words.{one_more_word, no_word_here}
use Rattle.dict_text.proofs.line.read_value.Goals as goal

pub returns-in_default-clause-refused : goal.returns-in_default-clause-refused
returns-in_default-clause-refused c = (refl, no_word_here c.loop-rest.invariant (grind (arith, common_steps)) c.in_default.ensures)

pub loop-rest-preserved : goal.loop-rest-preserved
loop-rest-preserved c = one_more_word c.loop-rest.invariant c.in-Some.ensures (omega arith) (grind (arith, common_steps))
