use Rattle.std.proofs.Common.{arith}
use Rattle.trace_text.proofs.Numbers.{digit_field}
use Rattle.trace_text.proofs.CallLines.{same_field}
use Rattle.trace_text.proofs.number.read_field.Goals as goal

pub returns-then-digit-most : goal.returns-then-digit-most
returns-then-digit-most c number rest le is =
    let mine = digit_field c.args.line.now c.in-Some.digit c.in-Some.rest.now c.in-Some.ensures.0 c.in-Some.ensures.1 in
    let h = same_field c.args.line.now c.in-Some.digit number c.in-Some.rest.now rest (omega (arith, c.in-Some.ensures.0)) (omega (arith, le)) mine is in
    omega (arith, h.0, le, c.if-digit-most.true)

pub returns-else-digit-most : goal.returns-else-digit-most
returns-else-digit-most c =
    (omega (arith, c.if-digit-most.false), digit_field c.args.line.now c.in-Some.digit c.in-Some.rest.now c.in-Some.ensures.0 c.in-Some.ensures.1)
