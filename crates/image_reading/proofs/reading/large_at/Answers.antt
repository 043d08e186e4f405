use Rattle.std.proofs.Common.{◌∙◌, ap, sym}
use Rattle.image_tables.specs.Tables.{large_of}
use Rattle.image_tables.proofs.Tables.{large_table}
use Rattle.image_reading.proofs.reading.large_at.Goals as goal

pub returns : goal.returns
returns c = λ words reads. c.large_of.ensures ∙ ap large_of (c.extent_at.ensures.reads words reads) ∙ sym (large_table words c.args.start)
