use Rattle.std.proofs.Common.{get_or, arith}
use Rattle.std.proofs.lemmas.Bool.{eq-eqb, eqb-true}
use Rattle.trace_text.proofs.Lines.{lines_at_feed, lines_without_feed}
use Rattle.trace_text.proofs.text.next_line.Goals as goal

pub returns-in-Some-clause-lines : goal.returns-in-Some-clause-lines
returns-in-Some-clause-lines c =
    let text = c.args.text.now in
    let found = c.in-Some.ensures in
    lines_at_feed text c.in-Some.end found.0.high (eqb-true (get_or text c.in-Some.end 0) 10 found.1) (λ k low feed. found.0.before k (omega arith) low (eq-eqb (get_or text k 0) 10 feed))

pub returns-in-None-clause-lines : goal.returns-in-None-clause-lines
returns-in-None-clause-lines c =
    let text = c.args.text.now in
    lines_without_feed text c.requires (λ k low feed. c.in-None.ensures k (omega arith) low (eq-eqb (get_or text k 0) 10 feed))
