use Rattle.arena_core.proofs.Replies.{malloc_refused}
use Rattle.uses.proofs.Carried.{taken, untaken}
use Rattle.uses.proofs.steps.take_block.Goals as goal

pub returns-in-Ok : goal.returns-in-Ok
returns-in-Ok g c = taken (rw c.stage.ensures at c.in-Ok.ensures)

pub returns-in-Err : goal.returns-in-Err
returns-in-Err g c = untaken (malloc_refused c.in-Err.field-0) (rw c.stage.ensures at c.in-Err.ensures) c.requires
