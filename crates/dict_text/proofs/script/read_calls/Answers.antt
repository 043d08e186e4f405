use Rattle.std.proofs.Common.{◌≡◌, ◌+◌, List, Err, sym, ◌∙◌, ap, subst, arith}
use Rattle.std.proofs.lemmas.Result.{err_from_is_err_and}
use Rattle.trace_text.specs.Texts.{lines_of}
use Rattle.trace_text.proofs.Lines.{no_lines}
use Rattle.trace_text.proofs.Texts.{CallsSoFar, calls_passed_over, one_more_call, all_calls, no_call_here, IfBadLine-weaker}
use Rattle.dict_text.specs.Script.{DictCall, script_lines}
use Rattle.dict_text.proofs.Rows.{one_more}
use Rattle.dict_text.proofs.script.read_calls.Goals as goal

pub loop-rest-preserved-in-Continue-1 : goal.loop-rest-preserved-in-Continue-1
loop-rest-preserved-in-Continue-1 c =
    let added = c.in_ok-add_call.ensures.added in
    record {
      so_far = subst (λ (calls : List DictCall). CallsSoFar script_lines c.args.granules (lines_of c.args.text.now) (lines_of c.next_line.result.1.now) calls (c.loop-rest.many + 1)) (sym added.calls)
          (one_more_call script_lines c.loop-rest.invariant.so_far c.next_line.ensures.lines added.call added.makes);
      values = added.has;
      size = added.size ∙ c.loop-rest.invariant.size;
      within = omega (arith, c.next_line.ensures.shorter);
      few = omega (arith, c.next_line.ensures.shorter, one_more added);
    }

pub returns-in_err-add_call-clause-refused : goal.returns-in_err-add_call-clause-refused
returns-in_err-add_call-clause-refused c =
    let p = err_from_is_err_and c.from_residual.result c.from_residual.ensures.1 in
    let is : c.from_residual.result ≡ Err c.in_err-add_call.field-0.0 = p.1 ∙ ap Err p.2 in
    rw is (IfBadLine-weaker c.in_err-add_call.field-0.0 _ _
    (λ line says. record {
      many = c.loop-rest.many;
      is_next = omega (arith, says.0);
      lines = no_call_here script_lines c.loop-rest.invariant.so_far c.next_line.ensures.lines (λ passed. let t = c.is_passed_over.ensures.1 passed in cc) says.1;
    }) c.in_err-add_call.ensures.refused)

pub loop-rest-preserved : goal.loop-rest-preserved
loop-rest-preserved c = record {
  so_far = calls_passed_over script_lines c.loop-rest.invariant.so_far c.next_line.ensures.lines (c.is_passed_over.ensures.0 c.if-not-is_passed_over.false);
  values = c.loop-rest.invariant.values;
  size = c.loop-rest.invariant.size;
  within = omega (arith, c.next_line.ensures.shorter);
  few = omega (arith, c.next_line.ensures.shorter);
}

pub returns-clause-calls : goal.returns-clause-calls
returns-clause-calls c = all_calls script_lines c.loop-rest.invariant.so_far (no_lines c.loop-rest.rest.now (sym c.loop-rest-test.ensures))
