use Rattle.std.proofs.Common.{◌∙◌, ap}
use Rattle.defect_search.proofs.Common.{entries_of, tables_of}
use Rattle.defect_search.proofs.BlockSizes.{old_by, no_old}
use Rattle.defect_search.proofs.sizes.has_old_in.Goals as goal

pub returns-in-Normal : goal.returns-in-Normal
returns-in-Normal c = no_old (tables_of c.args.words.now) c.args.slab.start c.args.at (c.requires.of.entries ∙ ap entries_of c.in-Normal.is)

pub returns-in-Morphing : goal.returns-in-Morphing
returns-in-Morphing c = old_by (tables_of c.args.words.now) c.args.slab.start c.args.at c.has_old.result c.has_old.ensures

pub returns-in-Morphed : goal.returns-in-Morphed
returns-in-Morphed c = old_by (tables_of c.args.words.now) c.args.slab.start c.args.at c.has_old-in-Morphed.result c.has_old-in-Morphed.ensures
