use Rattle.unit_map.proofs.StateUnits.{law_of_unused_blocks}
use Rattle.unit_map.proofs.laws.law_of_unused_blocks.Goals as goal

pub returns : goal.returns
returns c = law_of_unused_blocks
