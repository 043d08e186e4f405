use Rattle.std.proofs.Common.{arith}
use Rattle.trace_text.proofs.Numbers.{digits_further, too_many}
use Rattle.trace_text.proofs.number.read_many_digits.Goals as goal

pub returns-in-None : goal.returns-in-None
returns-in-None c =
    too_many c.args.text.now c.loop-i.value c.loop-i.i c.loop-i.invariant (omega arith) c.if-not-is_ascii_digit.ensures.cases (omega (arith, c.in-None.ensures))

pub loop-i-preserved : goal.loop-i-preserved
loop-i-preserved c =
    digits_further c.args.text.now c.loop-i.value c.loop-i.i c.in-Some.further c.loop-i.invariant (omega arith) c.if-not-is_ascii_digit.ensures.cases c.in-Some.ensures.1
