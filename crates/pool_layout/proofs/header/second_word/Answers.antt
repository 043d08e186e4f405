use Rattle.std.proofs.Common.{◌∙◌, refl, sym}
use Rattle.pmem_lines.specs.Words.{word_at}
use Rattle.pool_layout.proofs.header.second_word.Goals as goal

pub returns-then-text-text_of : goal.returns-then-text-text_of
unfolding word_at
returns-then-text-text_of c = ((λ good. c.if-text-text_of.true (good ∙ sym c.text_of.ensures)), refl)

pub returns : goal.returns
unfolding word_at
returns c = record { text = c.if-text-text_of.false ∙ c.text_of.ensures; is = refl }
