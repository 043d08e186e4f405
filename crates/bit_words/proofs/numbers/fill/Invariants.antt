use Rattle.std.proofs.Common.{◌≡◌, ℕ, ◌-◌, ◌*◌, ◌/◌, ◌%◌, cond, eqb, ltb, ◌&&◌, get_or}
use Rattle.bit_words.specs.Numbers.{ones}
use Rattle.bit_words.proofs.numbers.fill.Given as goal

abbrev pub invariant-loop-i : goal.invariant-loop-i
invariant-loop-i l = (j : ℕ) → get_or l.words j 0 ≡ cond (eqb (j / 64) l.place && ltb (j % 64) l.i) (ones (l.n - 64 * (j % 64))) (get_or l.fn.words j 0)
