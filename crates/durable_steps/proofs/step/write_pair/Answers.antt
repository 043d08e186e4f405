use Rattle.pmem_lines.specs.Pmem.{words_of}
use Rattle.pmem_lines.proofs.States.{then_step}
use Rattle.pmem_lines.proofs.Steps.{step_of}
use Rattle.durable_steps.proofs.Steps.{IsQuiet-pair, pair_crash}
use Rattle.durable_steps.proofs.step.write_pair.Goals as goal

pub returns : goal.returns
returns g c =
    let first = then_step c.store.ensures c.flush.ensures in
    let second = then_step c.store-2.ensures c.flush-2.ensures in
    step_of (then_step (then_step first second) c.fence.ensures)
    (IsQuiet-pair c.args.first c.args.a c.args.second c.args.b) c.requires.quiet
    (pair_crash (words_of (g.P.Pmem.state c.args.device.now)) c.args.first c.args.a c.args.second c.args.b)
