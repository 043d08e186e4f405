use Rattle.heap_indexes.proofs.Placed.{apart_changed, only_changed}
use Rattle.heap_model.specs.Placement.{with_class}
use Rattle.heap_indexes.proofs.Ways.{placed_morph}
use Rattle.heap_indexes.proofs.indexes.HeapIndexes.place_in_morph.Goals as goal

pub take_of-number-requires-clause-state : goal.take_of-number-requires-clause-state
take_of-number-requires-clause-state c =
    let state = c.requires.state in
    record { bounds = state.bounds; machine = with_class state.machine c.args.start c.args.class; apart = apart_changed state.apart state.are c.args.start c.args.class c.requires.ready; are = c.change_class.ensures.indexes state.bounds state.machine state.apart state.are }

pub take_of-number-requires-clause-only : goal.take_of-number-requires-clause-only
take_of-number-requires-clause-only c =
    let clear = c.requires.ready.clear in
    only_changed c.args.self.now.units c.args.self.now.supply c.change_class.new.self.supply c.args.start c.args.class clear.number c.requires.full clear.within clear.clear c.change_class.ensures.supplied

pub returns : goal.returns
returns c size least b m apart are =
    placed_morph apart are size c.args.class least c.args.seat c.args.start c.take_of-number.result c.change_class.new.self c.take_of-number.new.self c.requires.full c.requires.ready (c.change_class.ensures.indexes b m apart are) c.change_class.ensures.supplied c.take_of-number.ensures
