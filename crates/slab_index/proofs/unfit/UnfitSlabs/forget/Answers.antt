use Rattle.std.proofs.Common.{arith}
use Rattle.slab_index.proofs.UnfitSets.{unfit_past}
use Rattle.slab_index.proofs.unfit.UnfitSlabs.forget.Goals as goal

pub returns-else-start-lt-NUMBERS : goal.returns-else-start-lt-NUMBERS
returns-else-start-lt-NUMBERS c = unfit_past c.args.self.now c.args.start (omega (arith, c.if-start-lt-NUMBERS.false))
