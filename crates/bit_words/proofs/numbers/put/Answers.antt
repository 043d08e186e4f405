use Rattle.bit_words.proofs.Bits.{puts}
use Rattle.bit_words.proofs.numbers.put.Goals as goal

pub returns : goal.returns
returns c = puts c.args.words.now c.args.k c.with_bit.result c.args.on c.requires c.with_bit.type_inv c.with_bit.ensures
