use Rattle.std.proofs.Common.{◌≡◌, length, sym, ◌∙◌}
use Rattle.std.proofs.lemmas.Result.{err_from_is_err_and}
use Rattle.attach_dict.specs.declared.refusal.StageRefusal.TheVariants.{NumbersSpent}
use Rattle.dict_tests.proofs.Rest.{number_left}
use Rattle.dict_tests.proofs.calls.make_ready.Goals as goal

pub returns-in_err-stage-clause-left : goal.returns-in_err-stage-clause-left
returns-in_err-stage-clause-left c = λ left is.
    let p = err_from_is_err_and c.from_residual.result c.from_residual.ensures.1 in
    let same : p.0 ≡ NumbersSpent = cc (p.1, is) in
    number_left c.args.dict.now c.stage.new.self c.args.key (length c.args.value.now) c.in_err-stage.field-0.0 left c.in_err-stage.ensures.staged (sym p.2 ∙ same)

pub returns-clause-ready : goal.returns-clause-ready
returns-clause-ready c =
    let staged = c.in_ok-stage.ensures.staged in
    let filled = c.fill.ensures.filled c.args.key staged.asked.keeps.phase_is in
    record { key = c.args.key; value = c.args.value.now; is = filled.keeps.phase_is }

pub returns-clause-numbers : goal.returns-clause-numbers
returns-clause-numbers c = λ n up.
    let staged = c.in_ok-stage.ensures.staged in
    let filled = c.fill.ensures.filled c.args.key staged.asked.keeps.phase_is in
    filled.keeps.numbers n (staged.asked.keeps.numbers n up)
