use Rattle.arena_core.proofs.MovesCalls.{carried_moved, carried_unmoved}
use Rattle.arena_core.proofs.volatile.Volatile.carry_out_move.Goals as goal

pub returns-in-Ok : goal.returns-in-Ok
returns-in-Ok g c = carried_moved (record { at = c.in-Ok.block.at; size = c.in-Ok.block.size }) c.requires.arena (rw c.in-Ok.is at c.requires.plan) c.move_root.ensures.step c.move_root.ensures.moved

pub returns-in-Err : goal.returns-in-Err
returns-in-Err g c = carried_unmoved c.in-Err.refusal c.requires.arena (rw c.in-Err.is at c.requires.plan)
