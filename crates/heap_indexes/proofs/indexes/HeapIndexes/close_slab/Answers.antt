use Rattle.std.proofs.Common.{◌≡◌, slice_index, sym, subst}
use Rattle.heap_indexes.specs.Indexes.{Indexes}
use Rattle.slab_index.specs.SlabSet.{IsSlab}
use Rattle.heap_indexes.specs.Indexes.{HaveState}
use Rattle.heap_indexes.proofs.Placed.{slab_of}
use Rattle.heap_indexes.proofs.Freed.{slab_held, slab_back}
use Rattle.heap_indexes.proofs.indexes.HeapIndexes.close_slab.Goals as goal

pub give-requires : goal.give-requires
give-requires c =
    let state = subst HaveState (sym c.self.view_is) c.requires.state in
    let slab = subst (λ (x : Indexes). IsSlab x.supply.slabs c.args.start) (sym c.self.view_is) c.requires.slab in
    slab_held state.apart state.are c.args.start slab.class (slab_of state.apart state.are c.args.start slab.class slab.is).slab

pub returns : goal.returns
returns c =
    let slab = subst (λ (x : Indexes). IsSlab x.supply.slabs c.args.start) (sym c.self.view_is) c.requires.slab in
    let none = subst (λ (x : Indexes). slice_index x.lives.counts c.args.start ≡ 0) (sym c.self.view_is) c.requires.none in
    rw (sym c.self.view_is) (
      λ b m apart are. slab_back apart are c.args.start slab.class (slab_of apart are c.args.start slab.class slab.is).slab c.give.new.self c.remove.new.self c.drop_normal.new.self none c.give.ensures.granules c.give.ensures.free c.remove.ensures c.drop_normal.ensures.counts c.drop_normal.ensures.unfit c.drop_normal.ensures.normal,
      c.remove.ensures.stacks,
    )
