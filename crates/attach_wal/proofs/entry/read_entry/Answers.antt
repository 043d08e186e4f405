use Rattle.std.proofs.Common.{sym, arith}
use Rattle.attach_wal.proofs.Words.{place_of, move_of, says_place, says_move}
use Rattle.attach_wal.proofs.entry.read_entry.Goals as goal

pub returns-then-word-eq1 : goal.returns-then-word-eq1
unfolding move_of
returns-then-word-eq1 c = sym (says_move c.args.word (omega arith))

pub returns-else-word-eq1 : goal.returns-else-word-eq1
unfolding place_of
returns-else-word-eq1 c = sym (says_place c.args.word (omega arith))
