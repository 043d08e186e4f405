use Rattle.std.proofs.Common.{arith}
use Rattle.trace_text.proofs.Numbers.{no_number_past, no_number_empty, no_number_padded, number_from_digits}
use Rattle.trace_text.proofs.number.read_number.Goals as goal

pub returns-in_err-number : goal.returns-in_err-number
returns-in_err-number c = rw c.from_residual.ensures (no_number_past c.args.text.now c.in_err-number.ensures)

pub returns-then-many-eq0 : goal.returns-then-many-eq0
returns-then-many-eq0 c = no_number_empty c.args.text.now _ _ c.in_ok-number.ensures c.if-many-eq0.true

pub returns-then-is_padded : goal.returns-then-is_padded
returns-then-is_padded c =
    let padded = c.is_padded.ensures.0 c.if-is_padded.true in
    no_number_padded c.args.text.now _ _ c.in_ok-number.ensures padded.0 padded.1

pub returns : goal.returns
returns c =
    number_from_digits c.args.text.now _ _ c.in_ok-number.ensures (omega arith) (omega arith)
    (λ padded. let t = c.is_padded.ensures.1 padded in cc)
