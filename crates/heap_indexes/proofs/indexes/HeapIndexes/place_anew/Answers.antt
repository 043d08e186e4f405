use Rattle.std.proofs.Common.{sym, subst}
use Rattle.block_supply.specs.Supply.{Supply, HasNoOpen}
use Rattle.heap_indexes.proofs.Ways.{placed_noted}
use Rattle.heap_indexes.proofs.indexes.HeapIndexes.place_anew.Goals as goal

pub place_in-requires-clause-state : goal.place_in-requires-clause-state
place_in-requires-clause-state c =
    let state = c.requires.state in
    record { bounds = state.bounds; machine = state.machine; apart = state.apart; are = c.best_slab-fit.ensures.indexes state.bounds state.machine state.apart state.are }

pub place_in-requires-clause-full : goal.place_in-requires-clause-full
place_in-requires-clause-full c = subst (λ (s : Supply). HasNoOpen s c.args.class) (sym c.best_slab-fit.ensures.supply) c.requires.full

pub returns : goal.returns
returns c size least b m apart are = placed_noted b m c.args.seat size c.args.self.now c.best_slab-fit.new.self c.place_in.new.self c.place_in.result c.best_slab-fit.ensures.supply (c.place_in.ensures size least b m apart (c.best_slab-fit.ensures.indexes b m apart are))
