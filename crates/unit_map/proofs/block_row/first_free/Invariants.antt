use Rattle.std.proofs.Common.{ℕ, ◌-◌, ◌<◌, ◌≤◌}
use Rattle.unit_map.specs.Kept.{IsFree}
use Rattle.unit_map.proofs.block_row.first_free.Given as goal

abbrev pub invariant-loop-number : goal.invariant-loop-number
invariant-loop-number l = record {
  low : l.from ≤ l.number;
  none : (i : ℕ) → l.from ≤ i → i < l.number → ¬ (IsFree l.words l.row i);
}

abbrev pub decreases-loop-number : goal.decreases-loop-number
decreases-loop-number l = l.row.count - l.number
