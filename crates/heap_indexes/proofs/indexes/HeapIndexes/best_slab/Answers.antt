use Rattle.std.proofs.Common.{sym, subst}
use Rattle.heap_indexes.specs.Indexes.{HaveState}
use Rattle.heap_indexes.proofs.Placed.{normal_inside}
use Rattle.heap_indexes.proofs.BestSlabs.{noted_indexes}
use Rattle.heap_indexes.proofs.indexes.HeapIndexes.best_slab.Goals as goal

pub best_slab-requires-clause-inside : goal.best_slab-requires-clause-inside
best_slab-requires-clause-inside c = let state = subst HaveState (sym c.self.view_is) c.requires.state in normal_inside state.apart state.are

pub returns-clause-indexes : goal.returns-clause-indexes
returns-clause-indexes c = rw (sym c.self.view_is) (λ b m apart are. noted_indexes apart are c.args.class c.requires.class c.best_slab.new.lives c.best_slab.ensures.noted)
