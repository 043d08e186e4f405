use Rattle.slab_header.proofs.Bits.{bit_of_word-is}
use Rattle.image_reading.proofs.reading.bit_of.Goals as goal

pub returns : goal.returns
returns c = bit_of_word-is c.args.word c.args.k
