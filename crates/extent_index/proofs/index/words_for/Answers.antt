use Rattle.std.proofs.Common.{arith}
use Rattle.extent_index.specs.Runs.{words_of}
use Rattle.extent_index.proofs.Numbers.{rows_fit}
use Rattle.extent_index.proofs.index.words_for.Goals as goal

pub returns-clause-value : goal.returns-clause-value
unfolding words_of
returns-clause-value c = omega (arith, c.div_ceil.ensures)

pub returns-clause-rows_fit : goal.returns-clause-rows_fit
returns-clause-rows_fit c = rows_fit c.args.granules c.div_ceil.result (omega (arith, c.div_ceil.ensures)) c.requires
