use Rattle.pmem_lines.specs.Words.{word_at}
use Rattle.std.proofs.lemmas.Grind.{common_steps}
use Rattle.std.proofs.Common.{arith}
use Rattle.book_log.proofs.taking.word_at.Goals as goal

pub returns : goal.returns
unfolding word_at
returns c = grind (arith, common_steps)
