use Rattle.dict_tests.proofs.Rest.{rest_removed}
use Rattle.dict_tests.proofs.calls.drop_key.Goals as goal

pub returns-in-Ok : goal.returns-in-Ok
returns-in-Ok c = rest_removed c.args.dict.now c.remove.new.self c.args.key c.requires c.in-Ok.ensures.removed
