use Rattle.bit_words.proofs.Bits.{with_bit_set, with_bit_clear}
use Rattle.bit_words.proofs.numbers.with_bit.Goals as goal

pub returns-then-on : goal.returns-then-on
returns-then-on c = with_bit_set c.args.word c.args.bit c.args.on c.requires c.if-on.true

pub returns-else-on : goal.returns-else-on
returns-else-on c = with_bit_clear c.args.word c.args.bit c.args.on c.requires c.if-on.false
