use Rattle.arena_core.proofs.SlabChanges.{clear_opened, class_opened}
use Rattle.arena_core.proofs.volatile.Volatile.add_slab.Goals as goal

pub add-requires-clause-clear : goal.add-requires-clause-clear
add-requires-clause-clear g c = clear_opened _ _ _ _ c.requires.may

pub returns-clause-came : goal.returns-clause-came
returns-clause-came g c =
    let made = c.create_slab.ensures in
    class_opened _ _ _ _ c.requires.may _ made.opened c.requires.fresh made.step made.few made.book c.take.ensures.granules c.take.ensures.free c.add.ensures c.put_normal.ensures.counts c.put_normal.ensures.normal c.put_normal.ensures.unfit
