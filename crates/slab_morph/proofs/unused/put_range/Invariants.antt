use Rattle.std.proofs.Common.{◌≡◌, ◌<◌, ◌≤◌, ◌⊎◌, ℕ, true, length}
use Rattle.bit_words.specs.Numbers.{has}
use Rattle.slab_morph.proofs.unused.put_range.Given as goal

-- the numbers before this one are put
abbrev pub invariant-loop-i : goal.invariant-loop-i
invariant-loop-i l = record {
  size : length l.used ≡ 64;
  inside : (n : ℕ) → l.from ≤ n → n < l.i → has l.used n ≡ true;
  outside : (n : ℕ) → (n < l.from) ⊎ (l.end ≤ n) → has l.used n ≡ has l.fn.used n;
}
