use Rattle.pmem_lines.specs.Pmem.{words_of}
use Rattle.pmem_lines.proofs.Steps.{step_wider}
use Rattle.gc_steps.proofs.Extended.{drop_lies, drop_disjoint, dropped, dropped_or_not}
use Rattle.gc_steps.proofs.extents.drop_extent.Goals as goal

pub log_entry-requires-clause-disjoint : goal.log_entry-requires-clause-disjoint
log_entry-requires-clause-disjoint g c = drop_disjoint c.requires.droppable

pub log_entry-requires-clause-valid : goal.log_entry-requires-clause-valid
log_entry-requires-clause-valid g c = drop_lies c.requires.droppable

pub returns-clause-step : goal.returns-clause-step
returns-clause-step g c = step_wider (dropped_or_not c.requires.droppable (words_of (g.P.Pmem.state c.log_entry.new.device))) c.log_entry.ensures.step

pub returns-clause-dropped : goal.returns-clause-dropped
returns-clause-dropped g c = dropped c.requires.droppable c.log_entry.ensures.logged
