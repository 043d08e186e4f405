use Rattle.std.proofs.Common.{refl}
use Rattle.arena_core.proofs.Plans.{slab_in_set}
use Rattle.arena_core.proofs.SmallCalls.{named_used}
use Rattle.arena_core.proofs.RootBlocks.{class_one_more, class_taken}
use Rattle.arena_core.proofs.volatile.Volatile.take_block.Goals as goal

pub put_back-requires-clause-block : goal.put_back-requires-clause-block
put_back-requires-clause-block g c =
    let block_in = c.requires.detachable.block_in in
    record { class = _; slab = slab_in_set c.requires.arena.slabs c.args.block.start _ block_in.slab refl; below = block_in.below }

pub put_back-requires-clause-used : goal.put_back-requires-clause-used
put_back-requires-clause-used g c = named_used c.requires.arena.slabs c.requires.detachable

pub returns : goal.returns
returns g c =
    let block_in = c.requires.detachable.block_in in
    let came = c.put_back.ensures _ (slab_in_set c.requires.arena.slabs c.args.block.start _ block_in.slab refl) in
    record {
      taken = class_taken c.args.self.now c.requires.arena c.requires.detachable c.detach.ensures.detached c.put_back.new.self c.lower.new.lives c.requires.fresh c.detach.ensures.step came.with_block
          (c.lower.ensures _ (class_one_more c.requires.arena c.requires.detachable c.detach.ensures.detached));
      stacks = rw block_in.at came.stacks;
    }

pub lower-requires : goal.lower-requires
lower-requires g c = (_, class_one_more c.requires.arena c.requires.detachable c.detach.ensures.detached)
