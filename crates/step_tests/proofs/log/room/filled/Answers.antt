use Rattle.std.proofs.Common.{ap, ◌∙◌}
use Rattle.step_tests.proofs.Common.{layout_of}
use Rattle.step_tests.proofs.log.room.filled.Goals as goal

pub filled_on-requires-clause-row : goal.filled_on-requires-clause-row
filled_on-requires-clause-row c = c.layout_of-row.ensures.row ∙ ap layout_of c.from.ensures
