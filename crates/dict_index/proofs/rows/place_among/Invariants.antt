use Rattle.std.proofs.Common.{ℕ, ◌-◌, ◌<◌, ◌≤◌, get_or}
use Rattle.dict_index.proofs.rows.place_among.Given as goal

abbrev pub invariant-loop-low : goal.invariant-loop-low
invariant-loop-low l = record {
  order : l.low ≤ l.high;
  within : l.high ≤ l.count;
  before : (i : ℕ) → i < l.low → get_or l.keys (get_or l.row i 0) 0 < l.key;
  behind : (i : ℕ) → l.high ≤ i → i < l.count → l.key ≤ get_or l.keys (get_or l.row i 0) 0;
}

abbrev pub decreases-loop-low : goal.decreases-loop-low
decreases-loop-low l = l.high - l.low
