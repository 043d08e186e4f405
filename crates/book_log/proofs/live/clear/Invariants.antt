use Rattle.std.proofs.Common.{◌≡◌, ℕ, ◌<◌, None}
use Rattle.book_log.specs.Table.{extent_in}
use Rattle.book_log.proofs.live.clear.Given as goal

abbrev pub invariant-loop-extent : goal.invariant-loop-extent
invariant-loop-extent l = (start : ℕ) → start < l.extent-index → extent_in l.live start ≡ None
