use Rattle.std.proofs.Common.{length}
use Rattle.shared_pool.proofs.closing.+column.Given as goal

abbrev pub decreases-column : goal.decreases-column
decreases-column l = length l.passes.now
