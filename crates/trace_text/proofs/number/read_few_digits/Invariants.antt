use Rattle.std.proofs.Common.{◌≤◌, ◌-◌, length}
use Rattle.trace_text.proofs.Numbers.{DigitsSoFar}
use Rattle.trace_text.proofs.number.read_few_digits.Given as goal

abbrev pub invariant-loop-many : goal.invariant-loop-many
invariant-loop-many l = record {
  so_far : DigitsSoFar l.text l.value l.many;
  within : l.many ≤ length l.text;
  few : l.many ≤ 19;
}

abbrev pub decreases-loop-many : goal.decreases-loop-many
decreases-loop-many l = length l.text - l.many
