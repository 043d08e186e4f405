use Rattle.std.proofs.Common.{◌∙◌, sym}
use Rattle.image_tables.proofs.Tables.{slab_table}
use Rattle.image_check.proofs.summing.has_slab.Goals as goal

pub returns : goal.returns
returns c =
    let is = c.is_slab.ensures c.args.words.now c.requires ∙ sym (slab_table c.args.words.now c.args.start) in
    (λ e. sym is ∙ e, λ slab. is ∙ slab)
