use Rattle.std.proofs.Common.{◌≡◌, ℕ, ◌+◌, ◌<◌, ◌≤◌, length, get_or}
use Rattle.dict_index.proofs.rows.turn_down.Given as goal

abbrev pub invariant-loop-i : goal.invariant-loop-i
invariant-loop-i l = record {
  size : length l.row ≡ length l.initial.row;
  moved : (k : ℕ) → l.place ≤ k → k < l.i → get_or l.row k 0 ≡ get_or l.initial.row (k + 1) 0;
  below : (k : ℕ) → k < l.place → get_or l.row k 0 ≡ get_or l.initial.row k 0;
  above : (k : ℕ) → l.i ≤ k → get_or l.row k 0 ≡ get_or l.initial.row k 0;
}
