use Rattle.heap_check.proofs.Formatted.{law_of_formatted}
use Rattle.heap_check.proofs.laws.law_of_formatted.Goals as goal

pub returns : goal.returns
returns c = law_of_formatted
