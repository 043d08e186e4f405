use Rattle.gc_check.proofs.ExactStates.{law_of_exact_gc_state}
use Rattle.gc_check.proofs.laws.law_of_exact_gc_state.Goals as goal

pub returns : goal.returns
returns c = law_of_exact_gc_state
