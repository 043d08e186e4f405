use Rattle.std.proofs.Common.{arith}
use Rattle.slab_index.proofs.Taken.{taken_from}
use Rattle.slab_index.proofs.words.take_numbers.Goals as goal

pub returns : goal.returns
returns c = taken_from c.args.set.now c.args.at c.args.word c.requires (omega (arith, c.ranges.word.fits))
