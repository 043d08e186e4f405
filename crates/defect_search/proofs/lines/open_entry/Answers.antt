use Rattle.std.proofs.Common.{sym, arith}
use Rattle.defect_search.proofs.LineWords.{eight_lines, closed_entry, entry_read}
use Rattle.defect_search.proofs.lines.open_entry.Goals as goal

pub wal_word-requires-clause-line : goal.wal_word-requires-clause-line
wal_word-requires-clause-line c = omega (arith, eight_lines, c.in-Some.ensures.below)

pub wal_word-requires-clause-inside : goal.wal_word-requires-clause-inside
wal_word-requires-clause-inside c = omega (arith, eight_lines, c.in-Some.ensures.below)

pub returns-in-None : goal.returns-in-None
returns-in-None c = sym (closed_entry c.args.words.now c.in-None.ensures)

pub returns-in-Some : goal.returns-in-Some
returns-in-Some c = entry_read c.args.words.now c.in-Some.line c.wal_word.result c.entry_of.result c.requires.wal c.in-Some.ensures c.wal_word.ensures c.entry_of.ensures
