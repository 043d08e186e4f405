use Rattle.pmem_lines.proofs.States.{then_step}
use Rattle.log_room.proofs.copying.copy_chunk.Goals as goal

pub returns-clause-appends : goal.returns-clause-appends
returns-clause-appends g c = then_step c.copy_entries-behind.ensures.appends c.flush_chunk.ensures.appends
