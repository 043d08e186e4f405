use Rattle.std.proofs.Common.{◌≡◌, ◌-◌, length, drop}
use Rattle.book_log.specs.Log.{directory_of}
use Rattle.log_room.proofs.chunks.directory_of.Given as goal

abbrev pub invariant-loop-i : goal.invariant-loop-i
invariant-loop-i l = l.word ≡ directory_of (drop (length l.chunks - l.i) l.chunks)
