use Rattle.std.proofs.Common.{◌≡◌, ◌/◌, arith}
use Rattle.attach_steps.proofs.bit.put_block_bit.Given as given
use Rattle.attach_steps.proofs.bit.put_block_bit.Goals as goal

start : (g : given.Over) (c : goal.After-put_bit g) → c.granule_at.result / 16384 ≡ c.args.block.start
start g c = omega (arith, c.granule_at.ensures)

pub returns-clause-appends : goal.returns-clause-appends
returns-clause-appends g c = grind (arith, start)

pub returns-clause-over : goal.returns-clause-over
returns-clause-over g c = grind (arith, start)
