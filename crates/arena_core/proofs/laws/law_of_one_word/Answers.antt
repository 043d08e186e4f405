use Rattle.arena_core.proofs.ByCall.{law_of_one_word}
use Rattle.arena_core.proofs.laws.law_of_one_word.Goals as goal

pub returns : goal.returns
returns c = law_of_one_word
