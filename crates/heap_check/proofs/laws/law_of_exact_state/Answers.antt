use Rattle.heap_check.proofs.ExactStates.{law_of_exact_state}
use Rattle.heap_check.proofs.laws.law_of_exact_state.Goals as goal

pub returns : goal.returns
returns c = law_of_exact_state
