use Rattle.std.proofs.Common.{◌≡◌, sym, subst, ap, ◌∙◌, arith}
use Rattle.std.proofs.lemmas.Grind.{common_steps}
use Rattle.attach_wal.specs.Entry.{entry_word, FitsWord}
use Rattle.attach_wal.proofs.Words.{IsEntryWord-form}
use Rattle.attach_wal.proofs.entry.entry_of.Goals as goal

pub returns-else-fits : goal.returns-else-fits
returns-else-fits c form =
    let is = IsEntryWord-form c.args.word form in
    let fit : FitsWord c.read_entry-entry.result = subst FitsWord (sym c.read_entry-entry.ensures) is.fits in
    let word : c.args.word ≡ entry_word c.read_entry-entry.result = is.word ∙ ap entry_word (sym c.read_entry-entry.ensures) in
    grind (arith, common_steps)
