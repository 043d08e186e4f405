use Rattle.std.proofs.Common.{refl, arith}
use Rattle.std.proofs.lemmas.Grind.{common_steps}
use Rattle.dict_text.proofs.Rows.{adds_call}
use Rattle.dict_text.proofs.script.add_call.Goals as goal

pub returns-clause-added : goal.returns-clause-added
returns-clause-added c = adds_call c.args.line.now c.args.script.now _ c.in_ok-call.call c.requires c.in_ok-call.ensures.read (grind (arith, common_steps)) refl
