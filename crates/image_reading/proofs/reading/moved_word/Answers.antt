use Rattle.std.proofs.Common.{◌∙◌, sym, arith}
use Rattle.image_tables.specs.Tables.{tables_of}
use Rattle.image_reading.proofs.HeldRoots.{held_of-other, held_of-moved, held_of-still}
use Rattle.image_reading.proofs.reading.moved_word.Goals as goal

pub returns-then-root-from : goal.returns-then-root-from
returns-then-root-from c = c.root_word.ensures ∙ sym (held_of-other (tables_of c.args.words.now).word c.args.from c.args.to c.args.root c.if-root-from.true)

pub returns-then-root_word-gt0 : goal.returns-then-root_word-gt0
returns-then-root_word-gt0 c = sym (held_of-moved (tables_of c.args.words.now).word c.args.from c.args.to c.args.root (omega arith) (omega arith))

pub returns : goal.returns
returns c = c.root_word-3.ensures ∙ sym (held_of-still (tables_of c.args.words.now).word c.args.from c.args.to c.args.root (omega arith))
