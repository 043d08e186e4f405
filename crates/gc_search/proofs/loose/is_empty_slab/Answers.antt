use Rattle.std.proofs.Common.{◌∙◌, sym, arith}
use Rattle.image_reading.proofs.Holding.{refuted}
use Rattle.gc_search.proofs.Premises.{slab_high}
use Rattle.gc_search.proofs.Marks.{no_empty_slab, empty_slab_by}
use Rattle.gc_search.proofs.loose.is_empty_slab.Goals as goal

pub returns-then-not-is_slab : goal.returns-then-not-is_slab
returns-then-not-is_slab c = refuted (no_empty_slab c.args.words.now c.args.start (sym (c.is_slab.ensures c.args.words.now c.requires.read.reads) ∙ c.if-not-is_slab.true))

pub is_unmet-requires : goal.is_unmet-requires
is_unmet-requires c =
    let slab = sym (c.is_slab.ensures c.args.words.now c.requires.read.reads) ∙ c.if-not-is_slab.false in
    rw c.granules.ensures (omega (arith, slab_high c.requires.read c.args.start slab, c.requires.names.granules_size))

pub returns : goal.returns
returns c =
    let slab = sym (c.is_slab.ensures c.args.words.now c.requires.read.reads) ∙ c.if-not-is_slab.false in
    empty_slab_by c.args.words.now c.args.names.now.granules c.args.start c.is_unmet.result slab (omega (arith, slab_high c.requires.read c.args.start slab, c.requires.names.granules_size)) c.requires.names.granules (rw c.granules.ensures at c.is_unmet.ensures)
