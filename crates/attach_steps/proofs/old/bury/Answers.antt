use Rattle.std.proofs.Common.{◌≡◌, ◌/◌, arith}
use Rattle.attach_steps.proofs.Common.{then_step}
use Rattle.attach_steps.proofs.Sequences.{pair_step}
use Rattle.attach_steps.proofs.old.bury.Given as given
use Rattle.attach_steps.proofs.old.bury.Goals as goal

start : (g : given.Over) (c : goal.After-fence g) → c.granule_at.result / 16384 ≡ c.args.block.start
start g c = omega (arith, c.granule_at.ensures)

pub returns-clause-step : goal.returns-clause-step
returns-clause-step g c =
    pair_step _ _ _ _ (grind (arith, start)) (then_step (then_step (then_step c.store.ensures c.flush.ensures) c.put_index.ensures.appends) c.fence.ensures) c.requires.quiet

-- the root's store keeps the length, so that the index entry is put over the words at the begin too
pub returns-clause-over : goal.returns-clause-over
returns-clause-over g c = grind (arith, start)
