use Rattle.std.proofs.Common.{sym, arith}
use Rattle.trace_text.proofs.Lines.{no_lines}
use Rattle.trace_text.proofs.Texts.{one_more_passed, head_here, no_head_here, no_head}
use Rattle.trace_text.specs.Lines.{lines_for}
use Rattle.trace_text.proofs.trace.read_pool.Goals as goal

pub returns-in-Some : goal.returns-in-Some
returns-in-Some c = head_here (lines_for c.args.kind) c.loop-rest.invariant.passed c.next_line.ensures.lines c.in-Some.ensures (omega (arith, c.next_line.ensures.shorter))

pub returns-in-None : goal.returns-in-None
returns-in-None c = no_head_here (lines_for c.args.kind) c.loop-rest.invariant.passed c.next_line.ensures.lines (λ passed. let t = c.is_passed_over.ensures.1 passed in cc) c.in-None.ensures

pub loop-rest-preserved : goal.loop-rest-preserved
loop-rest-preserved c = record {
  passed = one_more_passed (lines_for c.args.kind) c.loop-rest.invariant.passed c.next_line.ensures.lines (c.is_passed_over.ensures.0 c.if-not-is_passed_over.false);
  within = omega (arith, c.next_line.ensures.shorter);
}

pub returns : goal.returns
returns c = no_head (lines_for c.args.kind) c.loop-rest.invariant.passed (no_lines c.loop-rest.rest.now (sym c.loop-rest-test.ensures))
