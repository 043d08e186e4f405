use Rattle.std.proofs.Common.{arith}
use Rattle.heap_map.proofs.Premises.{few_first}
use Rattle.heap_map.proofs.scanning.own_cell.Goals as goal

pub overflow_mul-granule : goal.overflow_mul-granule
overflow_mul-granule c = omega (arith, c.requires.before, few_first c.args.words.now c.requires.reading.sound)
