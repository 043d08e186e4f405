use Rattle.std.proofs.Common.{arith}
use Rattle.arena_core.proofs.Common.{root_inside}
use Rattle.arena_core.proofs.Plans.{root_is, word_small}
use Rattle.arena_core.proofs.plan.root_word.Goals as goal

pub load-requires : goal.load-requires
load-requires g c = let within = root_inside _ c.args.root c.requires.exact.formed c.requires.root in grind arith

pub overflow_cast-result : goal.overflow_cast-result
overflow_cast-result g c = grind (arith, root_is, word_small c.requires.exact c.args.root)
