use Rattle.store_times.proofs.Rest.{none_left}
use Rattle.store_times.proofs.keys.fill.Goals as goal

pub put_new-requires-clause-tidy : goal.put_new-requires-clause-tidy
put_new-requires-clause-tidy c = none_left c.args.dict.now c.tidy.new.self c.requires c.if-tidy.ensures.tidied
