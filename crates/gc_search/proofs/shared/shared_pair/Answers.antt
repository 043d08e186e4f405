use Rattle.gc_search.proofs.FirstPairs.{none_sharing}
use Rattle.gc_search.proofs.shared.shared_pair.Goals as goal

pub returns-in-None : goal.returns-in-None
returns-in-None c = none_sharing c.args.sorted.now c.in-None.ensures
