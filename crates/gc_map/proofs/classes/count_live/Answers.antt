use Rattle.std.proofs.Common.{arith}
use Rattle.gc_map.proofs.Premises.{many_roots}
use Rattle.gc_map.proofs.classes.count_live.Goals as goal

pub overflow_cast-root-end : goal.overflow_cast-root-end
overflow_cast-root-end c = omega (arith, c.requires.places.all, many_roots c.args.words.now c.requires.sound)
