use Rattle.uses.proofs.Stacks.{law_of_stacks}
use Rattle.uses.proofs.stack.law_of_stacks.Goals as goal

pub returns : goal.returns
returns c = law_of_stacks
