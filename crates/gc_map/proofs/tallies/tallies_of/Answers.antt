use Rattle.std.proofs.Common.{arith}
use Rattle.gc_map.proofs.Premises.{many_roots}
use Rattle.gc_map.proofs.tallies.tallies_of.Goals as goal

pub overflow_cast-root-end : goal.overflow_cast-root-end
overflow_cast-root-end c = omega (arith, c.requires.places.all, many_roots c.args.words.now c.requires.sound)

pub count_root-requires-clause-root : goal.count_root-requires-clause-root
count_root-requires-clause-root c = omega (arith, c.loop-root-test.true, c.requires.places.all, many_roots c.args.words.now c.requires.sound)
