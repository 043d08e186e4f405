use Rattle.std.proofs.Common.{refl}
use Rattle.bit_words.proofs.Bits.{has-shifted}
use Rattle.bit_words.proofs.numbers.has.Goals as goal

pub returns : goal.returns
returns c = has-shifted c.args.words.now c.args.k _ refl
