use Rattle.std.proofs.Common.{length, ap, arith}
use Rattle.trace_text.proofs.Numbers.{as_last, other_last}
use Rattle.trace_text.proofs.number.whole_number.Goals as goal
use Rattle.trace_text.proofs.number.whole_number.Goals.{then-number-most-via-then-number-most, then-number-most-via-else-number-most+then-rest-gt0}

pub returns-in_err-number : goal.returns-in_err-number
returns-in_err-number c =
    rw c.from_residual.ensures (λ number le is. c.in_err-number.ensures number _ (as_last c.args.text.now number (omega arith) is))

pub returns-then-number-most : goal.returns-then-number-most
returns-then-number-most c number le is =
    let h = other_last c.args.text.now _ number _ c.in_ok-number.ensures (omega arith) is in
    let e = ap length h.1 in
    elim c.then-number-most.branch [
      | then-number-most-via-then-number-most w ↦ omega (arith, h.0)
      | then-number-most-via-else-number-most+then-rest-gt0 w ↦ omega (arith, e)
    ]
