use Rattle.std.proofs.Common.{◌∙◌, sym, arith, true≢false}
use Rattle.defect_search.proofs.Common.{version_in, layout_rules, slab_table, refuted}
use Rattle.defect_search.proofs.Marks.{empty_slab_by}
use Rattle.defect_search.proofs.loose.is_empty_slab.Goals as goal

pub returns-then-not-is_slab : goal.returns-then-not-is_slab
returns-then-not-is_slab c = refuted (λ empty. true≢false (sym empty.slab ∙ slab_table c.args.words.now c.args.start ∙ sym (c.is_slab.ensures c.args.words.now c.requires.reads) ∙ c.if-not-is_slab.true))

pub returns : goal.returns
returns c =
    let slab = sym (c.is_slab.ensures c.args.words.now c.requires.reads) ∙ c.if-not-is_slab.false in
    empty_slab_by c.args.words.now c.args.met.now c.args.start c.is_unmet.result slab (omega (arith, c.requires.arena.slab c.args.start slab, (layout_rules (version_in c.args.words.now)).first)) c.requires.named c.is_unmet.ensures
