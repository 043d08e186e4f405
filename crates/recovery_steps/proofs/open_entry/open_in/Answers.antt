use Rattle.std.proofs.Common.{arith}
use Rattle.heap_check.proofs.Sizes.{sizes_of}
use Rattle.recovery_steps.proofs.Arenas.{sound_of, roots_lie}
use Rattle.recovery_steps.proofs.OpenEntries.{closed_in, line_below, found_open}
use Rattle.recovery_steps.proofs.open_entry.open_in.Goals as goal

pub next_line-requires : goal.next_line-requires
next_line-requires c = roots_lie c.args.words.now (sound_of c.args.words.now c.requires.image)

pub wal_word-requires-clause-line : goal.wal_word-requires-clause-line
wal_word-requires-clause-line c = line_below c.args.words.now c.in-Some.line c.in-Some.ensures

pub wal_word-requires-clause-inside : goal.wal_word-requires-clause-inside
wal_word-requires-clause-inside c =
    let sizes = sizes_of c.args.words.now c.requires.image.formed in
    omega (arith, sizes.size, sizes.least, line_below c.args.words.now c.in-Some.line c.in-Some.ensures)

pub returns-in-None : goal.returns-in-None
returns-in-None c = closed_in c.args.words.now c.in-None.ensures

pub returns-in-Some-entry_of : goal.returns-in-Some-entry_of
returns-in-Some-entry_of c =
    found_open c.args.words.now c.in-Some.line c.wal_word.result c.in-Some-entry_of.entry c.requires.image c.in-Some.ensures c.wal_word.ensures c.in-Some-entry_of.ensures
