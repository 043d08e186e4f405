use Rattle.std.proofs.Common.{◌∙◌, sym, true≢false}
use Rattle.std.proofs.lemmas.Bool.{eqb-true, eq-eqb}
use Rattle.pmem_lines.specs.Words.{word_at}
use Rattle.pool_layout.proofs.Headers.{no_text}
use Rattle.pool_layout.proofs.header.has_gc_text.Goals as goal

pub returns-then-words-eq0 : goal.returns-then-words-eq0
returns-then-words-eq0 c = (λ is. absurd (true≢false (sym is)), λ own. absurd (no_text c.args.words.now c.if-words-eq0.true own))

pub returns : goal.returns
unfolding word_at
returns c = (λ is. eqb-true _ _ is ∙ c.text_of.ensures, λ own. eq-eqb _ _ (own ∙ sym c.text_of.ensures))
