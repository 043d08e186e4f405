use Rattle.std.proofs.Common.{◌∙◌, ap, sym, cond}
use Rattle.image_tables.specs.Tables.{is_slab_of, large_of}
use Rattle.image_defects.proofs.Extents.{granules_table}
use Rattle.image_reading.proofs.reading.granules_at.Goals as goal

pub returns : goal.returns
returns c = λ words reads. c.granules_of.ensures ∙ ap (λ e. cond (is_slab_of e) 4 (large_of e)) (c.extent_at.ensures.reads words reads) ∙ sym (granules_table words c.args.start)
