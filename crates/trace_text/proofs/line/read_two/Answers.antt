use Rattle.std.proofs.Common.{arith}
use Rattle.trace_text.proofs.CallLines.{same_field}
use Rattle.trace_text.proofs.line.read_two.Goals as goal

pub returns-in_err-second : goal.returns-in_err-second
returns-in_err-second c = rw c.from_residual-in_err-second.ensures (λ root size fits less is.
    let h = same_field c.args.words.now _ root _ _ (omega (arith, c.in_ok-first.ensures.0)) (omega arith) c.in_ok-first.ensures.1 is in
    c.in_err-second.ensures size (omega arith) h.1)
