use Rattle.std.proofs.Common.{arith}
use Rattle.extent_index.proofs.Rows.{row_in_run}
use Rattle.extent_index.proofs.index.ExtentIndex.take.Goals as goal

pub overflow_add-end : goal.overflow_add-end
overflow_add-end c = omega (arith, row_in_run c.args.start c.args.n c.run_with-run.result.start c.run_with-run.result.granules c.requires c.run_with-run.ensures.run)
