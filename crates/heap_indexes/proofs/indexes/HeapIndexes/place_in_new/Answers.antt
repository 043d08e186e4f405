use Rattle.heap_indexes.proofs.Placed.{apart_opened, only_opened}
use Rattle.heap_model.specs.Placement.{with_class}
use Rattle.heap_indexes.proofs.Ways.{placed_fresh}
use Rattle.heap_indexes.proofs.indexes.HeapIndexes.place_in_new.Goals as goal

pub take_of-number-requires-clause-state : goal.take_of-number-requires-clause-state
take_of-number-requires-clause-state c =
    let state = c.requires.state in
    record { bounds = state.bounds; machine = with_class state.machine c.args.start c.args.class; apart = apart_opened state.apart state.are c.args.start c.args.class c.requires.fit; are = c.open_slab.ensures.indexes state.bounds state.machine state.apart state.are }

pub take_of-number-requires-clause-only : goal.take_of-number-requires-clause-only
take_of-number-requires-clause-only c = only_opened c.args.self.now.supply c.open_slab.new.self.supply c.args.start c.args.class c.requires.class c.requires.full c.open_slab.ensures.supplied

pub returns : goal.returns
returns c size least b m apart are =
    placed_fresh apart are size c.args.class least c.args.seat c.args.start c.take_of-number.result c.open_slab.new.self c.take_of-number.new.self c.requires.full c.requires.none c.requires.fit (c.open_slab.ensures.indexes b m apart are) c.open_slab.ensures.supplied c.take_of-number.ensures
