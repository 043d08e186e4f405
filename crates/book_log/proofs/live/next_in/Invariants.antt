use Rattle.std.proofs.Common.{◌≡◌, ℕ, ◌<◌, ◌≤◌, None}
use Rattle.book_log.specs.Table.{extent_in}
use Rattle.book_log.proofs.live.next_in.Given as goal

abbrev pub invariant-loop-start : goal.invariant-loop-start
invariant-loop-start l = (start : ℕ) → l.from ≤ start → start < l.start → extent_in l.live start ≡ None
