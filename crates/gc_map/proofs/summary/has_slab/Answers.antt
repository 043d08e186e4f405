use Rattle.std.proofs.Common.{◌∙◌, sym}
use Rattle.gc_search.proofs.Standing.{gc_slab}
use Rattle.gc_map.proofs.summary.has_slab.Goals as goal

pub returns : goal.returns
returns c =
    let is = gc_slab c.args.words.now c.args.start ∙ sym (c.is_slab.ensures c.args.words.now c.requires.book.reads) in
    (λ slab. is ∙ slab, λ slab. sym is ∙ slab)
