use Rattle.arena_core.proofs.ByCall.{law_of_one_read}
use Rattle.arena_core.proofs.laws.law_of_one_read.Goals as goal

pub returns : goal.returns
returns c = law_of_one_read
