use Rattle.std.proofs.Common.{◌∙◌, arith}
use Rattle.arena_core.proofs.Common.{words_of, with_key-here, class_in}
use Rattle.arena_core.proofs.HeldBlocks.{slab_here}
use Rattle.arena_core.proofs.ChangedHeaders.{is_slab, clear_without, came_changed, slab_now}
use Rattle.arena_core.proofs.volatile.Volatile.change_class.Goals as goal

pub remove-requires : goal.remove-requires
remove-requires g c = is_slab c.args.start c.requires.may.arena.slabs c.requires.may.morphable.slab

pub used_blocks-used-requires : goal.used_blocks-used-requires
used_blocks-used-requires g c =
    let new = words_of (g.P.Pmem.state c.take_class.new.p) in
    let taken = c.take_class.ensures.taken in
    slab_here new c.args.start c.granule_at.result (omega (arith, c.granule_at.ensures)) taken.exact.formed taken.exact.exact.sound (slab_now _ (g.P.Pmem.state c.take_class.new.p) _ _ _ c.requires.may taken c.args.start ∙ c.requires.may.morphable.slab)

pub add_used-requires-clause-fresh : goal.add_used-requires-clause-fresh
add_used-requires-clause-fresh g c = c.remove.ensures.classes c.args.start ∙ with_key-here (class_in c.args.self.now.supply.slabs) c.args.start _

pub returns : goal.returns
returns g c =
    let class = c.take_class.ensures in
    let both = came_changed _ _ _ _ _ c.requires.may class.taken c.requires.fresh class.step class.count c.remove.ensures c.drop_normal.ensures.counts c.drop_normal.ensures.normal c.drop_normal.ensures.unfit c.granule_at.ensures c.add_used.ensures c.used_blocks-used.ensures.unused in
    record { came = both.0; supplied = both.1 }

pub add_used-requires-clause-clear : goal.add_used-requires-clause-clear
add_used-requires-clause-clear g c = clear_without c.args.start c.requires.may.arena.current.exact c.requires.may.arena.slabs c.requires.may.morphable.slab c.remove.ensures
