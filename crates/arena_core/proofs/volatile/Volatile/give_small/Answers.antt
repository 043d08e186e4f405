use Rattle.std.proofs.Common.{arith}
use Rattle.arena_core.proofs.RootBlocks.{counted, given_done}
use Rattle.arena_core.proofs.volatile.Volatile.give_small.Goals as goal

pub returns-clause-done : goal.returns-clause-done
returns-clause-done g c class class_is = given_done c.args.block c.requires.held class_is c.attach.ensures.step c.attach.ensures.attached c.raise.ensures.size c.raise.ensures.counts c.raise.ensures.normal c.raise.ensures.unfit

pub raise-requires-clause-few : goal.raise-requires-clause-few
raise-requires-clause-few g c = grind (arith, counted)
