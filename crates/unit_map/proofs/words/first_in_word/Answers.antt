use Rattle.std.proofs.Common.{arith}
use Rattle.unit_map.proofs.Ranges.{none_in_word, first_in_word}
use Rattle.unit_map.proofs.words.first_in_word.Goals as goal

pub returns-then-part-eq0 : goal.returns-then-part-eq0
returns-then-part-eq0 c = none_in_word c.args.words.now c.args.at c.args.from c.args.end c.part_of-part.result c.args.on c.part_of-part.ensures c.if-part-eq0.true

pub returns : goal.returns
returns c =
    first_in_word c.args.words.now c.args.at c.args.from c.args.end c.part_of-part.result c.args.on c.part_of-part.ensures (omega arith) (omega (arith, c.part_of-part.type_inv))
