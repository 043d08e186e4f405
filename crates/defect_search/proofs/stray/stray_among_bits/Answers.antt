use Rattle.std.proofs.Common.{◌∙◌, arith}
use Rattle.image_tables.specs.Tables.{tables_of}
use Rattle.defect_search.proofs.Strays.{none_in_words, words_more, all_words}
use Rattle.defect_search.proofs.stray.stray_among_bits.Goals as goal

pub loop-word-init : goal.loop-word-init
loop-word-init c = none_in_words (tables_of c.args.words.now) c.args.slab.start

pub loop-word-preserved : goal.loop-word-preserved
loop-word-preserved c = words_more (tables_of c.args.words.now) c.args.slab.start c.loop-word.word c.loop-word.least c.stray_in_word-here.result c.loop-word.invariant c.stray_in_word-here.ensures c.lesser-least.ensures

pub returns : goal.returns
returns c = all_words (tables_of c.args.words.now) c.args.slab.start c.args.class c.loop-word.word c.loop-word.least (c.requires.slab.of.class ∙ c.requires.class) c.requires.is_class (omega arith) c.loop-word.invariant
