use Rattle.defect_search.proofs.FewLoose.{few_by}
use Rattle.defect_search.proofs.loose.is_too_many.Goals as goal

pub returns-clause-few : goal.returns-clause-few
returns-clause-few c = λ words arena are. few_by words c.args.loose.now c.is_above.result c.is_above.ensures arena are
