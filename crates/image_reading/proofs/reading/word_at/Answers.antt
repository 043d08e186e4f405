use Rattle.std.proofs.Common.{arith}
use Rattle.std.proofs.lemmas.Grind.{common_steps}
use Rattle.pmem_lines.specs.Words.{word_at}
use Rattle.image_reading.proofs.reading.word_at.Goals as goal

pub returns : goal.returns
unfolding word_at
returns c = grind (arith, common_steps)
