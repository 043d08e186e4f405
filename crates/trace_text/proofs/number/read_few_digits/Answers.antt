use Rattle.std.proofs.Common.{arith}
use Rattle.trace_text.proofs.Numbers.{digits_further, one_more_fits}
use Rattle.trace_text.proofs.number.read_few_digits.Goals as goal

pub overflow_mul-value : goal.overflow_mul-value
overflow_mul-value c =
    let room = one_more_fits c.args.text.now c.loop-many.value c.loop-many.many c.loop-many.invariant.so_far c.loop-many.invariant.within (omega (arith, c.loop-many.invariant.few, c.if-many-eq-SAFE_DIGITS.false)) in
    omega (arith, room)

pub overflow_add-value : goal.overflow_add-value
overflow_add-value c =
    let room = one_more_fits c.args.text.now c.loop-many.value c.loop-many.many c.loop-many.invariant.so_far c.loop-many.invariant.within (omega (arith, c.loop-many.invariant.few, c.if-many-eq-SAFE_DIGITS.false)) in
    omega (arith, room, c.from.ensures, c.if-not-is_ascii_digit.ensures.cases)

pub loop-many-preserved : goal.loop-many-preserved
loop-many-preserved c = record {
  so_far = digits_further c.args.text.now c.loop-many.value c.loop-many.many _ c.loop-many.invariant.so_far (omega arith) c.if-not-is_ascii_digit.ensures.cases (omega (arith, c.from.ensures));
  within = omega arith;
  few = omega (arith, c.loop-many.invariant.few, c.if-many-eq-SAFE_DIGITS.false);
}
