use Rattle.std.proofs.Common.{◌/◌, ◌∙◌, ap, arith}
use Rattle.defect_search.proofs.Common.{tables_of, is_old, slab_of}
use Rattle.defect_search.proofs.BlockSizes.{slab_of-far, index_count_none, no_old}
use Rattle.defect_search.proofs.sizes.is_old_at.Goals as goal

pub returns-then-granule-ge65536 : goal.returns-then-granule-ge65536
returns-then-granule-ge65536 c =
    let words = c.args.words.now in
    let k = c.args.at / 16384 in
    no_old (tables_of words) (slab_of (tables_of words).slab k) c.args.at (index_count_none words (slab_of (tables_of words).slab k) (slab_of-far words k c.requires.slabs (omega arith)))

pub returns : goal.returns
returns c =
    let t = tables_of c.args.words.now in
    c.is_old_in.ensures ∙ ap (λ s. is_old (t.header s) s c.args.at) (c.slab_of.ensures c.args.words.now c.requires.reads)
