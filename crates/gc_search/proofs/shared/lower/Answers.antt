use Rattle.gc_search.proofs.Sweeps.{first_here}
use Rattle.gc_search.proofs.shared.lower.Goals as goal

pub returns-in-None : goal.returns-in-None
returns-in-None c = first_here c.args.sorted.now c.args.i c.requires.clashing (rw c.in-None.is at c.requires.found)
