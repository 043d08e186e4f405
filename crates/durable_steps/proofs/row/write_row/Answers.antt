use Rattle.pmem_lines.specs.Pmem.{words_of}
use Rattle.pmem_lines.proofs.States.{then_step}
use Rattle.pmem_lines.proofs.Steps.{step_of}
use Rattle.durable_steps.proofs.Rows.{row_crash, IsQuiet-row}
use Rattle.durable_steps.proofs.row.write_row.Goals as goal

pub returns-clause-step : goal.returns-clause-step
returns-clause-step g c =
    step_of (then_step (then_step c.store_words.ensures.appends c.flush_lines.ensures.appends) c.fence.ensures)
    (IsQuiet-row c.args.from c.args.words.now c.requires.aligned c.requires.some) c.requires.quiet
    (row_crash (words_of (g.P.Pmem.state c.args.device.now)) c.args.from c.args.words.now)
