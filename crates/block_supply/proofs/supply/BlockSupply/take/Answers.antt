use Rattle.block_supply.proofs.Takes.{took_top, took_last}
use Rattle.block_supply.proofs.supply.BlockSupply.take.Goals as goal

pub returns-in-Some : goal.returns-in-Some
returns-in-Some c = took_top c.args.self.now c.pop.new.self c.args.seat c.args.class c.in-Some.block c.in-Some.ensures

pub returns : goal.returns
returns c = took_last c.args.self.now c.pop.new.self c.refill.new.self c.steal.new.self c.args.seat c.args.class c.steal.result c.in_default.ensures c.in_default-refill.ensures c.steal.ensures
