use Rattle.std.proofs.Common.{ℕ, ◌≢◌, ◌<◌}
use Rattle.book_log.specs.Log.{logged}
use Rattle.book_log.proofs.taking.first_free.Given as goal

abbrev pub invariant-loop-entry : goal.invariant-loop-entry
invariant-loop-entry l = (earlier : ℕ) → earlier < l.entry → logged l.version l.words l.chunk earlier ≢ 0
