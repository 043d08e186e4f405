use Rattle.std.proofs.Common.{◌≡◌, ℕ, ◌*◌, ◌<◌, ◌≤◌, false}
use Rattle.bit_words.specs.Numbers.{has}
use Rattle.bit_words.proofs.numbers.least_in.Given as goal

abbrev pub invariant-loop-i : goal.invariant-loop-i
invariant-loop-i l = (k : ℕ) → 64 * l.at ≤ k → k < 64 * l.i → has l.words k ≡ false
