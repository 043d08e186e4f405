use Rattle.unit_map.proofs.Ranges.{none_if_first}
use Rattle.unit_map.proofs.words.has_none.Goals as goal

pub returns : goal.returns
returns c = none_if_first c.args.words.now c.args.from c.args.end c.first_of.result c.is_none.result c.is_none.ensures c.first_of.ensures
