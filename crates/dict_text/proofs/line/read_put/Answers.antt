use Rattle.std.proofs.Common.{◌≡◌, ◌∙◌, Err, ap}
use Rattle.std.proofs.lemmas.Result.{err_from_is_err_and}
use Rattle.trace_text.proofs.Texts.{IfBadLine-weaker}
use Rattle.dict_text.proofs.CallLines.{no_put}
use Rattle.dict_text.proofs.line.read_put.Goals as goal

pub returns-in_err-count-clause-refused : goal.returns-in_err-count-clause-refused
returns-in_err-count-clause-refused c =
    let p = err_from_is_err_and c.from_residual.result c.from_residual.ensures.1 in
    let is : c.from_residual.result ≡ Err c.in_err-count.field-0.0 = p.1 ∙ ap Err p.2 in
    rw is (IfBadLine-weaker c.in_err-count.field-0.0 _ _ (λ line says. (says.0, no_put c.args.words.now c.in-Some.rest.now c.in-Some.key c.in-Some.ensures says.1)) c.in_err-count.ensures.refused)
