use Rattle.std.proofs.Common.{◌≡◌, ◌∙◌, ◌+◌, ◌-◌, ◌∷◌, ◌++◌, [], List, ap, sym, subst, length, arith, length-append}
use Rattle.std.specs.List.{All}
use Rattle.std.proofs.lemmas.List.Elements.{All-push}
use Rattle.pmem_lines.specs.Picks.{drawn}
use Rattle.trace_text.specs.declared.call.TraceCall.{TraceCall}
use Rattle.trace_text.specs.Grammar.{IsTraceCall}
use Rattle.trace_gen.specs.Draws.{call_of, IsOwn, drawn_from}
use Rattle.trace_gen.proofs.Draws.{drawn_more}
use Rattle.trace_gen.proofs.drawing.generate.Goals as goal

pub loop-number-preserved : goal.loop-number-preserved
loop-number-preserved c =
    let calls = c.loop-number.calls.items in
    let number = c.loop-number.number in
    let state = c.loop-number.generator in
    let made = c.call_of.result in
    let pushed = c.in_ok-push.ensures.items in
    let is : made ≡ call_of number (drawn state).0 = c.call_of.ensures.call ∙ ap (call_of number) c.draw.ensures.word in
    let many = ap length pushed ∙ length-append calls (made ∷ []) in
    record {
      calls = ap (λ (cs : List TraceCall). cs ++ drawn_from (c.args.count - (number + 1)) (number + 1) c.draw.new.generator) pushed
          ∙ ap (λ (m : TraceCall). (calls ++ m ∷ []) ++ drawn_from (c.args.count - (number + 1)) (number + 1) c.draw.new.generator) is
          ∙ ap (λ s. (calls ++ call_of number (drawn state).0 ∷ []) ++ drawn_from (c.args.count - (number + 1)) (number + 1) s) c.draw.ensures.state
          ∙ drawn_more calls c.args.count number state c.loop-number-test.true ∙ c.loop-number.invariant.calls;
      each = subst (All (IsTraceCall 4)) (sym pushed) (All-push (IsTraceCall 4) calls made c.loop-number.invariant.each c.call_of.ensures.valid);
      own = subst (All IsOwn) (sym pushed) (All-push IsOwn calls made c.loop-number.invariant.own c.call_of.ensures.own);
      many = let all = c.loop-number.invariant.many in omega (arith, many, all);
    }
