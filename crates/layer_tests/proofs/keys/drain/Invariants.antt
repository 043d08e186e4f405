use Rattle.std.proofs.Common.{length}
use Rattle.layer_tests.proofs.keys.drain.Given as goal

abbrev pub decreases-loop-next : goal.decreases-loop-next
decreases-loop-next l = length l.map.rows
