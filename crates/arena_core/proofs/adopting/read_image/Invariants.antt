use Rattle.std.proofs.Common.{◌≡◌, ◌-◌, ◌≤◌}
use Rattle.arena_core.proofs.Common.{words_of, IsReadBelow}
use Rattle.arena_core.proofs.adopting.read_image.Given as goal

abbrev pub invariant-loop-extent : goal.invariant-loop-extent
invariant-loop-extent g l = record {
  read : IsReadBelow (words_of (g.P.Pmem.state l.device)) l.free l.supply l.from;
  stacks : l.supply.stacks ≡ l.fn.supply.stacks;
  below : l.from ≤ l.log.granules;
}

abbrev pub decreases-loop-extent : goal.decreases-loop-extent
decreases-loop-extent g l = l.log.granules - l.from
