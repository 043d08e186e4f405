use Rattle.std.proofs.Common.{◌∙◌, arith}
use Rattle.pool_layout.specs.Places.{entry_slot}
use Rattle.book_log.proofs.Places.{entry_slot-within, word_of_place}
use Rattle.book_log.proofs.taking.logged_word.Goals as goal

pub word_at-requires : goal.word_at-requires
word_at-requires c =
    let a = c.args in
    record { aligned = omega (arith, c.entry_at.ensures); inside = omega (arith, c.entry_at.ensures, entry_slot-within a.version a.chunk a.entry c.requires.entry, c.requires.inside) }

pub returns : goal.returns
returns c =
    let a = c.args in
    c.word_at.ensures ∙ word_of_place a.words.now c.entry_at.result (entry_slot a.version a.chunk a.entry) c.entry_at.ensures
