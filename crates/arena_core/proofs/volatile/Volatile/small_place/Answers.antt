use Rattle.std.proofs.Common.{arith}
use Rattle.heap_model.proofs.Slabbing.{LiesIn-block}
use Rattle.arena_core.proofs.Plans.{slab_few, placing_small, placing_morph, placing_fresh}
use Rattle.arena_core.proofs.volatile.Volatile.small_place.Goals as goal

pub overflow_add-at : goal.overflow_add-at
overflow_add-at g c = let few = slab_few c.requires.arena.current.exact c.requires.arena.slabs c.in-Some.block.start c.args.class c.in-Some.ensures.slab in grind (arith, LiesIn-block)

pub returns-in-Some-clause-found : goal.returns-in-Some-clause-found
returns-in-Some-clause-found g c root size least = placing_small c.requires.arena.current.index root size c.requires.arena.slabs c.args.class _ c.in-Some.block least c.in-Some.ensures.slab c.in-Some.ensures.within c.in-Some.ensures.was_open (grind arith)

pub returns-in-Some-best_slab-clause-found : goal.returns-in-Some-best_slab-clause-found
returns-in-Some-best_slab-clause-found g c root size least = grind (arith, placing_morph)

pub returns-in-Some-best_fit-clause-found : goal.returns-in-Some-best_fit-clause-found
returns-in-Some-best_fit-clause-found g c root size least = placing_fresh c.requires.arena.current.index root size c.requires.arena.slabs c.args.class c.in-Some-best_fit.start least c.in_default.ensures.none c.in_default-best_slab.ensures.best c.in-Some-best_fit.ensures
