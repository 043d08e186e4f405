use Rattle.std.proofs.Common.{◌≡◌, ℕ}
use Rattle.book_log.proofs.Common.{entries_below, extent_behind}
use Rattle.book_log.specs.Log.{logged}
use Rattle.book_log.specs.Table.{extent_in}
use Rattle.book_log.proofs.taking.take_chunk.Given as goal

abbrev pub invariant-loop-entry : goal.invariant-loop-entry
invariant-loop-entry l =
    (start : ℕ) → extent_in l.live start ≡ extent_behind (entries_below (logged l.version l.words l.chunk) l.entry) start (extent_in l.fn.live start)
