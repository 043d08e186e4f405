use Rattle.arena_core.proofs.PlannedCalls.{planned_held, fresh_for, morph_for, called_large, called_small, called_morph, called_fresh}
use Rattle.arena_core.proofs.volatile.Volatile.carry_out_place.Goals as goal

-- whole granules
pub returns-in-Large : goal.returns-in-Large
returns-in-Large g c was size planned = rw c.placed_large.ensures (called_large (rw c.in-Large.is at planned) c.give_large.ensures.done c.give_large.ensures.line c.give_large.ensures.supply)

-- a block of a slab
pub give_small-requires-clause-held : goal.give_small-requires-clause-held
give_small-requires-clause-held g c = planned_held (rw c.in-Small.is at c.requires.planned.2)

pub returns-in-Small : goal.returns-in-Small
returns-in-Small g c was size planned =
    let here = rw c.in-Small.is at planned in
    rw c.placed_small.ensures (called_small here (c.give_small.ensures.done c.in-Small.class here.is.1.place_for.class_is) c.give_small.ensures.rest)

-- a block of a slab that takes the class
pub give_of-block-requires-clause-ready : goal.give_of-block-requires-clause-ready
give_of-block-requires-clause-ready g c = morph_for (rw c.in-Morph.is at c.requires.planned.2) c.change_class.ensures.came c.change_class.ensures.supplied.1 c.change_class.ensures.supplied.2

pub returns-in-Morph : goal.returns-in-Morph
returns-in-Morph g c was size planned =
    let change = c.change_class.ensures in
    let give = c.give_of-block.ensures in
    rw c.placed_small-in-Morph.ensures (called_morph c.give_of-block.result (rw c.in-Morph.is at planned) change.came change.supplied.1 change.supplied.2 give.block give.took give.done give.line)

-- the first block of a slab that is opened
pub give_of-block-requires-in-Fresh-clause-ready : goal.give_of-block-requires-in-Fresh-clause-ready
give_of-block-requires-in-Fresh-clause-ready g c = fresh_for (rw c.in-Fresh.is at c.requires.planned.2) c.add_slab.ensures.came c.add_slab.ensures.supplied

pub returns-in-Fresh : goal.returns-in-Fresh
returns-in-Fresh g c was size planned =
    let give = c.give_of-block-in-Fresh.ensures in
    rw c.placed_small-in-Fresh.ensures (called_fresh c.give_of-block-in-Fresh.result (rw c.in-Fresh.is at planned) c.add_slab.ensures.came c.add_slab.ensures.supplied give.block give.took give.done give.line)
