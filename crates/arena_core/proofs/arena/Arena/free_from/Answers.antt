use Rattle.arena_core.proofs.Plans.{held_known}
use Rattle.arena_core.proofs.Answering.{IsArena-began, answered_call}
use Rattle.arena_core.proofs.PlannedCalls.{refused_held}
use Rattle.arena_core.proofs.arena.Arena.free_from.Goals as goal

pub freed_of-requires : goal.freed_of-requires
freed_of-requires g c = held_known c.self.invariant.current.exact c.args.root c.in-Ok.held c.in-Ok.ensures

pub returns-in-Ok : goal.returns-in-Ok
returns-in-Ok g c = answered_call (g.P.Pmem.state c.self.inside.device) c.self.view_is c.begin.ensures.state c.self.invariant.current.exact (rw (← c.freed_of.ensures.0, ← c.freed_of.ensures.1) at c.carry_out_held.ensures)

pub returns-in-Err : goal.returns-in-Err
returns-in-Err g c =
    let refused = refused_held {seat = c.args.seat} {root = c.args.root} c.in-Err.refusal (IsArena-began c.self.invariant) c.in-Err.ensures in
    answered_call (g.P.Pmem.state c.self.inside.device) c.self.view_is c.begin.ensures.state c.self.invariant.current.exact (rw (← c.begin.ensures.state) at refused)
