use Rattle.dict_text.proofs.CallLines.{key_behind}
use Rattle.dict_text.proofs.line.read_key.Goals as goal

pub returns : goal.returns
returns c = key_behind c.args.line.now c.args.front.now _ c.whole_number.result c.in_ok-after.ensures c.whole_number.ensures
