use Rattle.std.proofs.Common.{◌≡◌, ℕ, ◌<◌, ◌≤◌}
use Rattle.defect_search.proofs.Common.{word_at, wal_word}
use Rattle.defect_search.proofs.lines.next_line.Given as goal

abbrev pub invariant-loop-line : goal.invariant-loop-line
invariant-loop-line l = (k : ℕ) → l.from ≤ k → k < l.line → word_at l.words (wal_word k) ≡ 0
