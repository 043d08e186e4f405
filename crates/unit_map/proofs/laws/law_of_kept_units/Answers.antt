use Rattle.unit_map.proofs.StateUnits.{law_of_kept_units}
use Rattle.unit_map.proofs.laws.law_of_kept_units.Goals as goal

pub returns : goal.returns
returns c = law_of_kept_units
