use Rattle.arena_core.proofs.Common.{words_of}
use Rattle.arena_core.proofs.CoveredBlocks.{slabs_old}
use Rattle.arena_core.proofs.RootBlocks.{old_one_more, old_taken}
use Rattle.arena_core.proofs.volatile.Volatile.take_old_block.Goals as goal

pub returns : goal.returns
returns g c = record {
  taken = old_taken c.args.self.now c.requires.arena c.requires.detachable c.detach_old.ensures.detached c.free_covered.new.supply c.lower.new.lives c.requires.fresh c.detach_old.ensures.step c.free_covered.ensures.slabs
      (c.lower.ensures _ (old_one_more c.requires.arena c.requires.detachable c.detach_old.ensures.detached));
  stacks = c.free_covered.ensures.stacks;
}

pub free_covered-requires-clause-slabs : goal.free_covered-requires-clause-slabs
free_covered-requires-clause-slabs g c =
    slabs_old (words_of (g.P.Pmem.state c.args.device.now)) c.args.self.now.line c.args.root c.args.block c.requires.detachable (words_of (g.P.Pmem.state c.detach_old.new.p)) c.detach_old.ensures.detached c.args.self.now.supply c.requires.arena.slabs

pub lower-requires : goal.lower-requires
lower-requires g c = (_, old_one_more c.requires.arena c.requires.detachable c.detach_old.ensures.detached)
