use Rattle.std.proofs.Common.{Err, sym, ap, ◌∙◌}
use Rattle.std.proofs.lemmas.Result.{err_from_is_err_and}
use Rattle.dict_tests.proofs.Rest.{rest_tidied, numbers_tidied}
use Rattle.dict_tests.proofs.calls.put.Goals as goal

pub returns-in_err-make_ready-clause-left : goal.returns-in_err-make_ready-clause-left
returns-in_err-make_ready-clause-left c = λ left is.
    let p = err_from_is_err_and c.from_residual.result c.from_residual.ensures.1 in
    c.in_err-make_ready.ensures.left left (sym (p.1 ∙ ap Err p.2) ∙ is)

pub returns-clause-rest : goal.returns-clause-rest
returns-clause-rest c =
    let ready = c.in_ok-make_ready.ensures.ready in
    let published = c.publish.ensures.published ready.key ready.value ready.is in
    rest_tidied c.publish.new.self c.tidy.new.self c.tidy.result published.phase published.one_stale c.tidy.ensures.tidied

pub returns-clause-numbers : goal.returns-clause-numbers
returns-clause-numbers c = λ n up.
    let ready = c.in_ok-make_ready.ensures.ready in
    let published = c.publish.ensures.published ready.key ready.value ready.is in
    numbers_tidied c.publish.new.self c.tidy.new.self c.tidy.result c.tidy.ensures.tidied _ (published.numbers n (c.in_ok-make_ready.ensures.numbers n up))
