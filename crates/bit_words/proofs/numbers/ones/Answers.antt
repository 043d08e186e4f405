use Rattle.bit_words.proofs.Bits.{ones_shifted, ones_all}
use Rattle.bit_words.proofs.numbers.ones.Goals as goal

pub returns-then-n-lt64 : goal.returns-then-n-lt64
returns-then-n-lt64 c = ones_shifted c.args.n c.if-n-lt64.true

pub returns-else-n-lt64 : goal.returns-else-n-lt64
returns-else-n-lt64 c = ones_all c.args.n c.if-n-lt64.false
