use Rattle.std.proofs.Common.{sym, subst, ◌∙◌}
use Rattle.heap_model.specs.Runs.{IsBestFit}
use Rattle.extent_index.specs.FreeSet.{IsFree}
use Rattle.heap_indexes.specs.Indexes.{Indexes, HaveState}
use Rattle.heap_indexes.proofs.Placed.{no_slab_there, clear_there, opened_indexes}
use Rattle.heap_indexes.proofs.indexes.HeapIndexes.open_slab.Goals as goal

pub add-requires-clause-fresh : goal.add-requires-clause-fresh
add-requires-clause-fresh c =
    let state = subst HaveState (sym c.self.view_is) c.requires.state in
    let fit = subst (λ (x : Indexes). IsBestFit (IsFree x.free) 4 c.args.start) (sym c.self.view_is) c.requires.fit in
    state.are.supply.classes c.args.start ∙ no_slab_there state.apart state.are c.args.start fit

pub add-requires-clause-clear : goal.add-requires-clause-clear
add-requires-clause-clear c =
    let state = subst HaveState (sym c.self.view_is) c.requires.state in
    let fit = subst (λ (x : Indexes). IsBestFit (IsFree x.free) 4 c.args.start) (sym c.self.view_is) c.requires.fit in
    clear_there state.apart state.are c.args.start fit

pub returns-clause-indexes : goal.returns-clause-indexes
returns-clause-indexes c =
    let fit = subst (λ (x : Indexes). IsBestFit (IsFree x.free) 4 c.args.start) (sym c.self.view_is) c.requires.fit in
    rw (sym c.self.view_is) (λ b m apart are. opened_indexes apart are c.take.new.self c.add.new.self c.put_normal.new.self c.put.new.self c.args.start c.args.class fit c.requires.class c.take.ensures.granules c.take.ensures.free c.add.ensures c.put_normal.ensures.counts c.put_normal.ensures.unfit c.put_normal.ensures.normal c.put.ensures.size c.put.ensures.counts)
