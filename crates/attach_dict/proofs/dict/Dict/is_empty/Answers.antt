use Rattle.attach_dict.proofs.Lengths.{is_empty_list}
use Rattle.attach_dict.proofs.dict.Dict.is_empty.Goals as goal

pub returns : goal.returns
returns g c = is_empty_list c.args.self.now.pairs c.len.result c.len.ensures.count
