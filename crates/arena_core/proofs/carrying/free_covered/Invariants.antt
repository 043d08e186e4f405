use Rattle.std.proofs.Common.{◌≡◌}
use Rattle.arena_core.proofs.Common.{words_of}
use Rattle.arena_core.proofs.CoveredBlocks.{AreGiven}
use Rattle.arena_core.proofs.carrying.free_covered.Given as goal

abbrev pub invariant-loop-number : goal.invariant-loop-number
invariant-loop-number g l = record {
  given : AreGiven l.supply (words_of (g.P.Pmem.state l.device)) l.block.start l.number l.end;
  stacks : l.supply.stacks ≡ l.fn.supply.stacks;
}
