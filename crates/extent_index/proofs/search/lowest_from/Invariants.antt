use Rattle.std.proofs.Common.{◌≡◌, ℕ, ◌+◌, ◌-◌, ◌*◌, ◌/◌, ◌<◌, ◌≤◌, false}
use Rattle.bit_words.specs.Numbers.{has}
use Rattle.extent_index.proofs.search.lowest_from.Given as goal

abbrev pub invariant-loop-i : goal.invariant-loop-i
invariant-loop-i g l = record {
  none : (k : ℕ) → l.from ≤ k → k < 64 * l.i → has l.table k ≡ false;
  steps : l.steps ≤ l.fn.steps + (l.i - l.from / 64);
}
