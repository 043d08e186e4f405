use Rattle.std.proofs.Common.{◌∙◌, ap, arith}
use Rattle.defect_search.proofs.Common.{slab_block, tables_of}
use Rattle.defect_search.proofs.Strays.{clear_word, first_in_word, none_in_word}
use Rattle.defect_search.proofs.stray.stray_in_word.Goals as goal

pub returns-then-value-eq0 : goal.returns-then-value-eq0
returns-then-value-eq0 c =
    clear_word c.args.words.now c.args.slab.start c.args.class c.args.word c.bitmap_word-value.result c.requires.slab.at.slab (c.requires.slab.of.class ∙ c.requires.class) c.requires.is_class c.bitmap_word-value.ensures c.if-value-eq0.true

pub returns-then-is_stray_bit : goal.returns-then-is_stray_bit
returns-then-is_stray_bit c =
    let place = c.block_at.ensures ∙ ap (λ n. (slab_block c.args.slab.start c.args.class n).at) c.number_in.ensures in
    first_in_word (tables_of c.args.words.now) c.args.slab.start c.args.class c.args.word c.loop-bit.bit c.block_at.result (c.requires.slab.of.class ∙ c.requires.class) c.requires.word (omega arith) (c.is_stray_bit.ensures.0 c.if-is_stray_bit.true) c.loop-bit.invariant place

pub returns : goal.returns
returns c = none_in_word (tables_of c.args.words.now) c.args.slab.start c.args.word (λ k below. c.loop-bit.invariant k (omega arith))
