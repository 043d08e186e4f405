use Rattle.std.proofs.Common.{◌≡◌, ℕ, ◌+◌, ◌<◌, ◌≤◌, length, get_or}
use Rattle.dict_index.proofs.rows.turn_up.Given as goal

abbrev pub invariant-loop-i : goal.invariant-loop-i
invariant-loop-i l = record {
  low : l.place ≤ l.i;
  high : l.i ≤ l.last;
  size : length l.row ≡ length l.initial.row;
  moved : (k : ℕ) → l.i ≤ k → k < l.last → get_or l.row (k + 1) 0 ≡ get_or l.initial.row k 0;
  below : (k : ℕ) → k < l.i → get_or l.row k 0 ≡ get_or l.initial.row k 0;
  above : (k : ℕ) → l.last < k → get_or l.row k 0 ≡ get_or l.initial.row k 0;
}

abbrev pub decreases-loop-i : goal.decreases-loop-i
decreases-loop-i l = l.i
