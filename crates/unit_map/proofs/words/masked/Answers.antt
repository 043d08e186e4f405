use Rattle.unit_map.proofs.Masks.{masked_on, masked_off}
use Rattle.unit_map.proofs.words.masked.Goals as goal

pub returns-then-on : goal.returns-then-on
returns-then-on c = masked_on c.args.word c.args.mask c.args.on c.if-on.true

pub returns-else-on : goal.returns-else-on
returns-else-on c = masked_off c.args.word c.args.mask c.args.on c.ranges.mask.fits c.if-on.false
