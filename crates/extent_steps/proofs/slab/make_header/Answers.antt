use Rattle.std.proofs.Common.{◌≡◌, ◌/◌, arith}
use Rattle.extent_steps.proofs.slab.make_header.Given as given
use Rattle.extent_steps.proofs.slab.make_header.Goals as goal

-- the granule of the slab's first byte
start_is : (g : given.Over) (c : goal.After-make_slab g) → c.granule_at.result / 16384 ≡ c.args.start
start_is g c = omega (arith, c.granule_at.ensures)

pub returns-clause-step : goal.returns-clause-step
returns-clause-step g c = grind (arith, start_is)

pub returns-clause-made : goal.returns-clause-made
returns-clause-made g c = grind (arith, start_is)
