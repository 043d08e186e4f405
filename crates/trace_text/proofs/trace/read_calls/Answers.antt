use Rattle.std.proofs.Common.{◌+◌, ◌≡◌, ◌++◌, ◌∷◌, [], List, sym, subst, arith}
use Rattle.std.proofs.lemmas.Grind.{common_steps}
use Rattle.trace_text.specs.Texts.{lines_of}
use Rattle.trace_text.specs.Lines.{lines_for}
use Rattle.trace_text.specs.declared.call.TraceCall.{TraceCall}
use Rattle.trace_text.proofs.Lines.{no_lines}
use Rattle.trace_text.proofs.Texts.{CallsSoFar, calls_passed_over, one_more_call, all_calls, no_call_here}
use Rattle.trace_text.proofs.trace.read_calls.Goals as goal

pub returns-in-None-clause-refused : goal.returns-in-None-clause-refused
returns-in-None-clause-refused c = record {
  many = c.loop-rest.many;
  is_next = omega arith;
  lines = no_call_here (lines_for c.args.kind) c.loop-rest.invariant.so_far c.next_line.ensures.lines (λ passed. let t = c.is_passed_over.ensures.1 passed in cc) c.in-None.ensures;
}

pub loop-rest-preserved : goal.loop-rest-preserved
loop-rest-preserved c = record {
  so_far = calls_passed_over (lines_for c.args.kind) c.loop-rest.invariant.so_far c.next_line.ensures.lines (c.is_passed_over.ensures.0 c.if-not-is_passed_over.false);
  within = omega (arith, c.next_line.ensures.shorter);
  few = omega (arith, c.next_line.ensures.shorter);
}

pub returns-clause-calls : goal.returns-clause-calls
returns-clause-calls c = all_calls (lines_for c.args.kind) c.loop-rest.invariant.so_far (no_lines c.loop-rest.rest.now (sym c.loop-rest-test.ensures))

pub loop-rest-preserved-else-is_err : goal.loop-rest-preserved-else-is_err
loop-rest-preserved-else-is_err c =
    let pushed : c.push.new.self.items ≡ c.loop-rest.calls.items ++ c.in-Some.call ∷ [] = grind (arith, common_steps) in
    record {
      so_far = subst (λ (calls : List TraceCall). CallsSoFar (lines_for c.args.kind) c.args.pool (lines_of c.args.text.now) (lines_of c.next_line.result.1.now) calls (c.loop-rest.many + 1)) (sym pushed)
          (one_more_call (lines_for c.args.kind) c.loop-rest.invariant.so_far c.next_line.ensures.lines c.in-Some.call c.in-Some.ensures);
      within = omega (arith, c.next_line.ensures.shorter);
      few = grind (arith, common_steps, c.next_line.ensures.shorter, pushed);
    }
