use Rattle.std.proofs.Common.{◌*◌, ap, arith}
use Rattle.std.proofs.lemmas.Nat.{mul-le}
use Rattle.extent_index.specs.Runs.{words_of}
use Rattle.extent_index.proofs.Numbers.{row_within}
use Rattle.extent_index.proofs.index.row_for.Goals as goal

pub overflow_mul-result : goal.overflow_mul-result
overflow_mul-result c = omega (arith, mul-le c.words_for.result c.args.length 64 4096 c.words_for.ensures.few (omega arith))

pub returns-clause-value : goal.returns-clause-value
returns-clause-value c = ap (λ words. words * c.args.length) c.words_for.ensures.value

pub returns-clause-within : goal.returns-clause-within
returns-clause-within c = rw c.words_for.ensures.value (row_within (words_of c.args.granules) c.args.granules c.args.length c.requires.below)

pub returns-clause-fits : goal.returns-clause-fits
returns-clause-fits c = omega (arith, mul-le c.words_for.result c.args.length 64 4096 c.words_for.ensures.few (omega arith))
