use Rattle.image_tables.specs.Tables.{tables_of}
use Rattle.defect_search.proofs.Strays.{old_more}
use Rattle.defect_search.proofs.stray.stray_among_old.Goals as goal

pub loop-place-preserved : goal.loop-place-preserved
loop-place-preserved c = old_more (tables_of c.args.words.now) c.args.slab.start c.loop-place.place c.loop-place.least c.stray_at_place-here.result c.loop-place.invariant c.stray_at_place-here.ensures c.lesser-least.ensures
