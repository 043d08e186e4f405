use Rattle.extent_steps.proofs.Common.{words_of, step_wider}
use Rattle.extent_steps.proofs.Dropping.{gone_or_not}
use Rattle.extent_steps.proofs.large.drop_extent.Goals as goal

pub returns-clause-step : goal.returns-clause-step
returns-clause-step g c = step_wider (gone_or_not c.requires.loose (words_of (g.P.Pmem.state c.log_entry.new.device))) c.log_entry.ensures.step
