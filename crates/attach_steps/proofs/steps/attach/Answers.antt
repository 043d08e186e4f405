use Rattle.std.proofs.Common.{arith}
use Rattle.attach_steps.proofs.Common.{words_of}
use Rattle.attach_steps.proofs.Stages.{inside}
use Rattle.attach_steps.proofs.ClassBlocks.{number_low, coming, attached, attach_step}
use Rattle.attach_steps.proofs.steps.attach.Goals as goal

pub mark-requires-clause-inside : goal.mark-requires-clause-inside
mark-requires-clause-inside g c =
    inside (coming c.requires.attachable c.requires.line) c.requires.line (words_of (g.P.Pmem.state c.write_entry.new.device)) c.write_entry.ensures.step.appends.size

pub mark-requires-clause-number : goal.mark-requires-clause-number
mark-requires-clause-number g c = number_low _ _ _ c.requires.attachable.block_in

pub returns-clause-attached : goal.returns-clause-attached
returns-clause-attached g c = attached c.requires.attachable c.requires.line (grind arith) c.mark.ensures.over c.mark.ensures.step.appends.words c.close_entry.ensures.closes

pub returns-clause-step : goal.returns-clause-step
returns-clause-step g c =
    attach_step c.requires.attachable c.requires.line (grind arith) c.mark.ensures.over c.mark.ensures.step.appends.words c.close_entry.ensures.closes
    (grind arith) c.mark.ensures.step c.close_entry.ensures.step
