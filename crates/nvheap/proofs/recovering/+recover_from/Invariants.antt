use Rattle.std.proofs.Common.{◌-◌}
use Rattle.nvheap.proofs.recovering.+recover_from.Given as goal

abbrev pub decreases-recover_from : goal.decreases-recover_from
decreases-recover_from g l = l.header.now.arenas - l.arena
