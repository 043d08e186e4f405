use Rattle.trace_text.proofs.Numbers.{DigitsSoFar}
use Rattle.trace_text.proofs.number.read_many_digits.Given as goal

abbrev pub invariant-loop-i : goal.invariant-loop-i
invariant-loop-i l = DigitsSoFar l.text l.value l.i
