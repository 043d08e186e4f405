use Rattle.std.proofs.Common.{arith}
use Rattle.attach_steps.proofs.Common.{words_of}
use Rattle.attach_steps.proofs.Stages.{inside}
use Rattle.attach_steps.proofs.ClassBlocks.{number_low, going, detached, detach_step}
use Rattle.attach_steps.proofs.steps.detach.Goals as goal

pub unmark-requires-clause-inside : goal.unmark-requires-clause-inside
unmark-requires-clause-inside g c =
    inside (going c.requires.detachable c.requires.line) c.requires.line (words_of (g.P.Pmem.state c.write_entry.new.device)) c.write_entry.ensures.step.appends.size

pub unmark-requires-clause-number : goal.unmark-requires-clause-number
unmark-requires-clause-number g c = number_low _ _ _ c.requires.detachable.block_in

pub returns-clause-detached : goal.returns-clause-detached
returns-clause-detached g c = detached c.requires.detachable c.requires.line (grind arith) c.unmark.ensures.over c.unmark.ensures.step.appends.words c.close_entry.ensures.closes

pub returns-clause-step : goal.returns-clause-step
returns-clause-step g c =
    detach_step c.requires.detachable c.requires.line (grind arith) c.unmark.ensures.over c.unmark.ensures.step.appends.words c.close_entry.ensures.closes
    (grind arith) c.unmark.ensures.step c.close_entry.ensures.step
