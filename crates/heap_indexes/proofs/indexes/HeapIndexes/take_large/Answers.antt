use Rattle.std.proofs.Common.{sym, subst}
use Rattle.heap_indexes.specs.Adopting.{HasNextLarge}
use Rattle.heap_indexes.specs.Indexes.{Indexes}
use Rattle.heap_indexes.proofs.TakenExtents.{large_free, large_taken}
use Rattle.heap_indexes.proofs.indexes.HeapIndexes.take_large.Goals as goal

pub take-requires : goal.take-requires
take-requires c = large_free (subst (λ (x : Indexes). HasNextLarge x c.args.start c.args.granules) (sym c.self.view_is) c.requires.next).is

pub returns-clause-taken : goal.returns-clause-taken
returns-clause-taken c = rw (sym c.self.view_is) (λ b m n k next. large_taken next c.take.new.self c.take.ensures.granules c.take.ensures.free)
