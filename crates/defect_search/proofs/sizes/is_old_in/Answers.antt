use Rattle.std.proofs.Common.{◌∙◌, sym}
use Rattle.image_tables.specs.Tables.{tables_of}
use Rattle.defect_search.proofs.BlockSizes.{index_count_none, no_old}
use Rattle.defect_search.proofs.sizes.is_old_in.Goals as goal

pub returns-then-not-is_slab : goal.returns-then-not-is_slab
returns-then-not-is_slab c =
    no_old (tables_of c.args.words.now) c.args.start c.args.at (index_count_none c.args.words.now c.args.start (sym (c.is_slab.ensures c.args.words.now c.requires.reads) ∙ c.if-not-is_slab.true))
