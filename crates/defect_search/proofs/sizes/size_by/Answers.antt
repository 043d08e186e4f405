use Rattle.std.proofs.Common.{◌≡◌, ◌∙◌, cond, sym, subst, arith}
use Rattle.image_tables.specs.Tables.{tables_of}
use Rattle.defect_search.proofs.BlockSizes.{size_by-class, size_by-far}
use Rattle.defect_search.proofs.sizes.size_by.Goals as goal

pub returns-then-granule-ge65536 : goal.returns-then-granule-ge65536
returns-then-granule-ge65536 c = c.from.ensures ∙ c.size_of_class.ensures.size ∙ sym (size_by-far c.args.words.now c.args.at c.args.of_old c.requires.slabs (omega arith))

pub returns : goal.returns
returns c =
    let t = tables_of c.args.words.now in
    let start = c.slab_of.ensures c.args.words.now c.requires.reads in
    let class = subst (λ s. cond c.args.of_old (t.header s).old (t.header s).class ≡ c.class_by-class.result) start c.class_by-class.ensures.class in
    c.from-2.ensures ∙ c.size_of_class-2.ensures.size ∙ sym (size_by-class t c.args.at c.class_by-class.result c.args.of_old class)
