use Rattle.attach_dict.proofs.Openings.{opened_whole}
use Rattle.attach_dict.proofs.dict.Dict.open.Goals as goal

pub invariant_of-result : goal.invariant_of-result
invariant_of-result g c = opened_whole c.args.arena c.in-Ok.index c.read_index.ensures.ready c.read_index.ensures.exact c.in-Ok.ensures.indexed

pub returns-in-Ok-clause-kept : goal.returns-in-Ok-clause-kept
returns-in-Ok-clause-kept g c = (opened_whole c.args.arena c.in-Ok.index c.read_index.ensures.ready c.read_index.ensures.exact c.in-Ok.ensures.indexed).kept

pub returns-in-Ok-clause-is_dict : goal.returns-in-Ok-clause-is_dict
returns-in-Ok-clause-is_dict g c = (opened_whole c.args.arena c.in-Ok.index c.read_index.ensures.ready c.read_index.ensures.exact c.in-Ok.ensures.indexed).kept.dict
