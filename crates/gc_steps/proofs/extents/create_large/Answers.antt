use Rattle.pmem_lines.specs.Pmem.{words_of}
use Rattle.pmem_lines.proofs.Steps.{step_wider}
use Rattle.gc_steps.proofs.Extended.{exact_disjoint, large_lies, large_created, large_or_not}
use Rattle.gc_steps.proofs.extents.create_large.Goals as goal

pub log_entry-requires-clause-disjoint : goal.log_entry-requires-clause-disjoint
log_entry-requires-clause-disjoint g c = exact_disjoint c.requires.creatable.image

pub log_entry-requires-clause-valid : goal.log_entry-requires-clause-valid
log_entry-requires-clause-valid g c = large_lies c.requires.creatable c.requires.many

pub returns-clause-step : goal.returns-clause-step
returns-clause-step g c = step_wider (large_or_not c.requires.creatable c.requires.many (words_of (g.P.Pmem.state c.log_entry.new.device))) c.log_entry.ensures.step

pub returns-clause-created : goal.returns-clause-created
returns-clause-created g c = large_created c.requires.creatable c.requires.many c.log_entry.ensures.logged
