use Rattle.gc_search.proofs.FirstPairs.{first_sharing, has_partner}
use Rattle.gc_search.proofs.shared.pair_of.Goals as goal

pub returns-in-Some : goal.returns-in-Some
returns-in-Some c = first_sharing c.args.sorted.now c.args.i c.in-Some.second c.requires.order c.requires.first c.in-Some.ensures

pub returns-in-None : goal.returns-in-None
returns-in-None c = absurd (has_partner c.args.sorted.now c.args.i c.requires.first.here c.in-None.ensures)
