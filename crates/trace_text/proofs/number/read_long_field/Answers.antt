use Rattle.std.proofs.Common.{arith}
use Rattle.trace_text.proofs.Numbers.{other_field}
use Rattle.trace_text.proofs.number.read_long_field.Goals as goal

pub returns-then-number-most : goal.returns-then-number-most
returns-then-number-most c number rest le is =
    let h = other_field c.args.line.now _ number _ rest c.in_ok-number.ensures (omega arith) is in omega (arith, h.0)

pub returns-in-None : goal.returns-in-None
returns-in-None c number rest le is =
    let h = other_field c.args.line.now _ number _ rest c.in_ok-number.ensures (omega arith) is in c.in-None.ensures rest h.1
