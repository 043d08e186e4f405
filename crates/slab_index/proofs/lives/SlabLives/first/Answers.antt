use Rattle.slab_index.proofs.Counted.{first_is}
use Rattle.std.proofs.Common.{sym}
use Rattle.slab_index.proofs.lives.SlabLives.first.Goals as goal

pub returns-clause-first : goal.returns-clause-first
returns-clause-first c = rw (sym c.self.view_is) (first_is c.self.inside.counts c.self.inside.normal c.self.inside.unfit c.args.class c.first.result c.self.invariant c.first.ensures.first)
