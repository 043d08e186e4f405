use Rattle.std.proofs.Common.{arith}
use Rattle.attach_steps.proofs.Common.{then_step}
use Rattle.attach_steps.proofs.Sequences.{pair_step}
use Rattle.attach_steps.proofs.steps.mark.Goals as goal

pub returns-clause-step : goal.returns-clause-step
returns-clause-step g c =
    pair_step _ _ _ _ (grind arith) (then_step (then_step (then_step c.put_block_bit.ensures.appends c.store.ensures) c.flush.ensures) c.fence.ensures) c.requires.quiet
