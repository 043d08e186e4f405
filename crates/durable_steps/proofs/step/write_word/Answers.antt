use Rattle.pmem_lines.specs.Pmem.{words_of}
use Rattle.pmem_lines.proofs.States.{then_step}
use Rattle.pmem_lines.proofs.Steps.{step_of}
use Rattle.durable_steps.proofs.Steps.{IsQuiet-word, word_crash}
use Rattle.durable_steps.proofs.step.write_word.Goals as goal

pub returns : goal.returns
returns g c =
    step_of (then_step (then_step c.store.ensures c.flush.ensures) c.fence.ensures)
    (IsQuiet-word c.args.at c.args.value) c.requires.quiet
    (word_crash (words_of (g.P.Pmem.state c.args.device.now)) c.args.at c.args.value)
