use Rattle.std.proofs.Common.{◌==◌, sym, ap, subst}
use Rattle.heap_indexes.specs.Adopting.{HasNextSlab}
use Rattle.heap_indexes.specs.Indexes.{Indexes}
use Rattle.heap_indexes.proofs.TakenExtents.{slab_free, slab_taken}
use Rattle.heap_indexes.proofs.indexes.HeapIndexes.take_slab.Goals as goal

pub take-requires : goal.take-requires
take-requires c = slab_free (subst (λ (x : Indexes). HasNextSlab x c.args.start c.args.class) (sym c.self.view_is) c.requires.next).is

pub returns-clause-taken : goal.returns-clause-taken
returns-clause-taken c = rw (sym c.self.view_is) (λ b m k next. slab_taken next c.take.new.self c.add_used.new.self c.put_class.new.lives c.used_blocks-used.result (c.at-normal.result == 0) c.take.ensures.granules c.take.ensures.free c.used_blocks-used.ensures.blocks c.add_used.ensures
    (ap (λ n. n == 0) c.at-normal.ensures) c.put_class.ensures.counts c.put_class.ensures.unfit c.put_class.ensures.normal)
