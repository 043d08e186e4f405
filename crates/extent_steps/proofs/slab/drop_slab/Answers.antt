use Rattle.extent_steps.proofs.Common.{words_of, step_wider}
use Rattle.extent_steps.proofs.Dropping.{dropped, dropped_or_not}
use Rattle.extent_steps.proofs.slab.drop_slab.Goals as goal

pub returns-clause-step : goal.returns-clause-step
returns-clause-step g c = step_wider (dropped_or_not c.requires.droppable (words_of (g.P.Pmem.state c.log_entry.new.device))) c.log_entry.ensures.step

pub returns-clause-dropped : goal.returns-clause-dropped
returns-clause-dropped g c = dropped c.requires.droppable c.log_entry.ensures.logged
