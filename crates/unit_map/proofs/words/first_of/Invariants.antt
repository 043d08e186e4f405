use Rattle.std.proofs.Common.{◌≢◌, ℕ, ◌*◌, ◌<◌, ◌≤◌}
use Rattle.bit_words.specs.Numbers.{has}
use Rattle.unit_map.proofs.words.first_of.Given as goal

abbrev pub invariant-loop-at : goal.invariant-loop-at
invariant-loop-at l = (k : ℕ) → l.from ≤ k → k < l.end → k < 64 * l.at → has l.words k ≢ l.on
