use Rattle.std.proofs.Common.{◌∙◌, sym}
use Rattle.image_tables.specs.Tables.{tables_of}
use Rattle.defect_search.proofs.Strays.{one_place}
use Rattle.defect_search.proofs.stray.stray_at_place.Goals as goal

pub returns-then-is_stray : goal.returns-then-is_stray
returns-then-is_stray c =
    let t = tables_of c.args.words.now in
    one_place t c.args.slab.start c.args.place c.args.old c.number_at-number.result c.block_at.result (c.requires.slab.of.old ∙ c.requires.old) c.number_at-number.ensures (sym c.live_at.ensures ∙ c.if-live_at.true) ((c.is_stray.ensures t c.requires.blocks).0 c.if-is_stray.true) c.block_at.ensures
