use Rattle.std.proofs.Common.{arith}
use Rattle.trace_text.proofs.CallLines.{same_field, behind_first}
use Rattle.trace_text.proofs.line.read_written.Goals as goal

pub returns-in_err-index : goal.returns-in_err-index
returns-in_err-index c = rw c.from_residual-in_err-index.ensures (λ root index value fits below less is.
    let h = same_field c.args.words.now _ root _ _ (omega (arith, c.in_ok-root.ensures.0)) (omega arith) c.in_ok-root.ensures.1 (behind_first c.args.words.now root index value is) in
    c.in_err-index.ensures index value below (omega arith) h.1)
