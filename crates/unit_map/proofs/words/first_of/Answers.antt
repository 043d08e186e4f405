use Rattle.unit_map.proofs.Ranges.{none_more}
use Rattle.unit_map.proofs.words.first_of.Goals as goal

pub loop-at-preserved : goal.loop-at-preserved
loop-at-preserved c = none_more c.args.words.now c.loop-at.at c.args.from c.args.end c.args.on c.in_default.ensures c.loop-at.invariant
