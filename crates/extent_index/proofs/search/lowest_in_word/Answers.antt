use Rattle.std.proofs.Common.{◌%◌, refl, arith}
use Rattle.std.proofs.lemmas.Nat.{and_le_l}
use Rattle.extent_index.proofs.Searches.{from_bit, none_in_word, least_in_word}
use Rattle.extent_index.proofs.search.lowest_in_word.Goals as goal

pub returns-then-word-eq0-clause-found : goal.returns-then-word-eq0-clause-found
returns-then-word-eq0-clause-found g c = none_in_word c.args.table.now c.args.from c.look.result c.look.ensures.word c.if-word-eq0.true

pub returns-clause-found : goal.returns-clause-found
returns-clause-found g c =
    least_in_word c.args.table.now c.args.from c.look.result c.look.ensures.word (from_bit c.look.result (c.args.from % 64)) refl (omega arith)
    (omega (arith, and_le_l))
