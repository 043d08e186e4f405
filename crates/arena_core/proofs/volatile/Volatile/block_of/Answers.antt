use Rattle.arena_core.proofs.Plans.{held_known}
use Rattle.arena_core.proofs.volatile.Volatile.block_of.Goals as goal

pub freed_of-block-requires : goal.freed_of-block-requires
freed_of-block-requires g c = held_known c.requires.arena.current.exact c.args.root c.in-Some.held c.in-Some.ensures
