use Rattle.dict_tests.proofs.Rest.{is_new}
use Rattle.dict_tests.proofs.calls.is_new.Goals as goal

pub returns-then-stale-eq0 : goal.returns-then-stale-eq0
returns-then-stale-eq0 c = λ empty.
    is_new c.args.dict.now c.stale.result c.law_of_stale_counts.ensures c.stale.ensures.kept c.requires c.stale.ensures.count c.if-stale-eq0.true (c.is_empty.ensures.0 empty)
