use Rattle.std.proofs.Common.{◌≡◌, ◌⊎◌, ℕ, ◌*◌, ◌<◌, ◌≤◌}
use Rattle.bit_words.specs.Numbers.{has}
use Rattle.unit_map.proofs.words.put_range.Given as goal

-- the numbers of the words before this one
abbrev pub invariant-loop-at : goal.invariant-loop-at
invariant-loop-at l = record {
  these : (k : ℕ) → l.from ≤ k → k < l.end → k < 64 * l.at → has l.words k ≡ l.on;
  others : (k : ℕ) → (k < l.from) ⊎ (l.end ≤ k) → has l.words k ≡ has l.fn.words k;
}
