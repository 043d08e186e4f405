use Rattle.arena_core.proofs.PlannedCalls.{freed_granules, freed_small, freed_old_block}
use Rattle.arena_core.proofs.volatile.Volatile.carry_out_held.Goals as goal

pub returns-in-Large : goal.returns-in-Large
returns-in-Large g c = rw c.in-Large.is (freed_granules c.requires.arena (rw c.in-Large.is at c.requires.plan) c.take_large.ensures.done c.take_large.ensures.line c.take_large.ensures.supply)

pub returns-in-Small : goal.returns-in-Small
returns-in-Small g c = rw c.in-Small.is (freed_small c.requires.arena (rw c.in-Small.is at c.requires.plan) c.take_block.ensures.taken c.take_block.ensures.stacks c.tidy.ensures.tidied c.tidy.ensures.line c.tidy.ensures.stacks)

pub returns-in-Old : goal.returns-in-Old
returns-in-Old g c = rw c.in-Old.is (freed_old_block c.requires.arena (rw c.in-Old.is at c.requires.plan) c.take_old_block.ensures.taken c.take_old_block.ensures.stacks c.tidy-in-Old.ensures.tidied c.tidy-in-Old.ensures.line c.tidy-in-Old.ensures.stacks)
