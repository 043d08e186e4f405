use Rattle.arena_core.proofs.Answering.{answered_move}
use Rattle.arena_core.proofs.arena.Arena.move_to.Goals as goal

pub returns : goal.returns
returns g c = answered_move (g.P.Pmem.state c.self.inside.device) c.self.view_is c.begin.ensures.state c.self.invariant.current.exact c.carry_out_move.ensures
