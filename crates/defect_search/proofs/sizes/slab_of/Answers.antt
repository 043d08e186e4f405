use Rattle.std.proofs.Common.{sym, ◌∙◌, refl}
use Rattle.image_tables.specs.Tables.{tables_of}
use Rattle.defect_search.proofs.BlockSizes.{slab_read, slab_of-first, slab_of-second, slab_of-third, slab_of-last}
use Rattle.defect_search.proofs.sizes.slab_of.Goals as goal

pub returns-then-is_slab : goal.returns-then-is_slab
returns-then-is_slab c = λ words reads. sym (slab_of-first (tables_of words).slab c.args.granule (slab_read words refl (c.is_slab.ensures words reads) c.if-is_slab.true))

pub returns-then-is_slab-2 : goal.returns-then-is_slab-2
returns-then-is_slab-2 c = λ words reads.
    c.saturating_sub-then-is_slab-2.ensures
    ∙ sym (slab_of-second (tables_of words).slab c.args.granule (slab_read words refl (c.is_slab.ensures words reads) c.if-is_slab.false) (slab_read words c.saturating_sub.ensures (c.is_slab-2.ensures words reads) c.if-is_slab-2.true))

pub returns-then-is_slab-3 : goal.returns-then-is_slab-3
returns-then-is_slab-3 c = λ words reads.
    c.saturating_sub-then-is_slab-3.ensures
    ∙ sym (slab_of-third (tables_of words).slab c.args.granule (slab_read words refl (c.is_slab.ensures words reads) c.if-is_slab.false) (slab_read words c.saturating_sub.ensures (c.is_slab-2.ensures words reads) c.if-is_slab-2.false)
    (slab_read words c.saturating_sub-2.ensures (c.is_slab-3.ensures words reads) c.if-is_slab-3.true))

pub returns : goal.returns
returns c = λ words reads.
    c.saturating_sub-3.ensures
    ∙ sym (slab_of-last (tables_of words).slab c.args.granule (slab_read words refl (c.is_slab.ensures words reads) c.if-is_slab.false) (slab_read words c.saturating_sub.ensures (c.is_slab-2.ensures words reads) c.if-is_slab-2.false)
    (slab_read words c.saturating_sub-2.ensures (c.is_slab-3.ensures words reads) c.if-is_slab-3.false))
