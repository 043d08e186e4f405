use Rattle.std.proofs.Common.{◌≡◌, ◌-◌, length}
use Rattle.unit_map.proofs.BlockRows.{Tells}
use Rattle.unit_map.proofs.block_row.held_blocks.Given as goal

abbrev pub invariant-loop-held : goal.invariant-loop-held
invariant-loop-held l = record {
  size : length l.set ≡ 64;
  tells : Tells l.words l.row l.number l.set;
}

abbrev pub decreases-loop-held : goal.decreases-loop-held
decreases-loop-held l = l.row.count - l.number
