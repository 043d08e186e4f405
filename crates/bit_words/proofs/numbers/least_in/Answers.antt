use Rattle.bit_words.proofs.Bits.{none_more}
use Rattle.bit_words.proofs.numbers.least_in.Goals as goal

pub loop-i-preserved : goal.loop-i-preserved
loop-i-preserved c = none_more c.args.words.now c.args.at c.loop-i.i c.loop-i.invariant c.in_default.ensures
