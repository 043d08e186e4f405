use Rattle.std.proofs.Common.{refl, sym, ◌∙◌, arith}
use Rattle.slab_index.proofs.Steps.{word_read}
use Rattle.slab_index.proofs.Others.{none_in_clear_row, one_word_more, first_in_row}
use Rattle.slab_index.proofs.sparse.in_row.Goals as goal

pub returns-then-index-eq0 : goal.returns-then-index-eq0
returns-then-index-eq0 c = none_in_clear_row c.args.classes.now c.args.unfit.now c.args.class c.args.live c.requires.rows.summary (sym (word_read _ _ c.args.live c.index.result.now refl (omega arith) c.index.ensures) ∙ c.if-index-eq0.true)

pub returns-in-Some : goal.returns-in-Some
returns-in-Some c = first_in_row c.args.starts.now.words.items c.args.classes.now c.args.unfit.now c.args.class c.args.live c.loop-at.at c.in-Some.start c.loop-at-test.true c.loop-at.invariant c.in-Some.ensures

pub loop-at-preserved : goal.loop-at-preserved
loop-at-preserved c = one_word_more c.args.starts.now.words.items c.args.classes.now c.args.unfit.now c.args.class c.args.live c.loop-at.at c.loop-at.invariant c.in_default.ensures
