use Rattle.arena_core.proofs.Plans.{held_known}
use Rattle.arena_core.proofs.volatile.Volatile.plan_move.Goals as goal

pub freed_of-block-requires : goal.freed_of-block-requires
freed_of-block-requires g c = held_known c.requires.arena.current.exact c.args.from c.in-Some.held c.in-Some.ensures
