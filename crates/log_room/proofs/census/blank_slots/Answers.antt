use Rattle.log_room.proofs.Telling.{blank_at}
use Rattle.log_room.proofs.census.blank_slots.Goals as goal

pub returns : goal.returns
returns g c = blank_at g.row.N
