use Rattle.std.proofs.Common.{arith}
use Rattle.image_check.proofs.Premises.{size_of, log_inside}
use Rattle.image_check.proofs.stages.check_extents_of.Goals as goal

pub new-requires-clause-least : goal.new-requires-clause-least
new-requires-clause-least c = omega (arith, (size_of c.args.words.now c.requires.header).least)

pub new-requires-clause-most : goal.new-requires-clause-most
new-requires-clause-most c = omega (arith, (size_of c.args.words.now c.requires.header).most)

pub load_words-requires-clause-inside : goal.load_words-requires-clause-inside
load_words-requires-clause-inside c = log_inside c.args.words.now c.requires.header c.requires.size
