use Rattle.std.proofs.Common.{arith}
use Rattle.std.proofs.lemmas.Grind.{common_steps}
use Rattle.pmem_lines.specs.Words.{word_at}
use Rattle.map_text.proofs.dump.word_at.Goals as goal

pub returns-then-word-words : goal.returns-then-word-words
unfolding word_at
returns-then-word-words c = grind (arith, common_steps)

pub returns : goal.returns
unfolding word_at
returns c = grind (arith, common_steps)
