use Rattle.std.proofs.Common.{arith}
use Rattle.extent_index.proofs.Rows.{row_in_heap}
use Rattle.extent_index.proofs.index.ExtentIndex.give.Goals as goal

pub overflow_add-start : goal.overflow_add-start
overflow_add-start c = omega (arith, row_in_heap c.args.start c.args.n c.requires (omega arith))

pub overflow_add-below-2 : goal.overflow_add-below-2
overflow_add-below-2 c = omega (arith, row_in_heap c.args.start c.args.n c.requires (omega arith), c.run_below-below.ensures.run.meets)
