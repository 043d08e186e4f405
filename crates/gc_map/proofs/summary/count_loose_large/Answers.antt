use Rattle.std.proofs.Common.{arith}
use Rattle.gc_map.proofs.Premises.{few_granules}
use Rattle.gc_map.proofs.summary.count_loose_large.Goals as goal

pub returns-clause-few : goal.returns-clause-few
returns-clause-few c = omega (arith, c.loop-start.invariant.few, c.loop-start.auto.start-end, c.granules-start-end.ensures.granules, c.requires.book.granules, few_granules c.args.words.now c.requires.sound)
