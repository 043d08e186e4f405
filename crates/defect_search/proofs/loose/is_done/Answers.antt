use Rattle.std.proofs.Common.{◌∙◌, sym, true≢false}
use Rattle.defect_search.proofs.Common.{slab_table, refuted}
use Rattle.defect_search.proofs.Marks.{done_by}
use Rattle.defect_search.proofs.loose.is_done.Goals as goal

pub returns-then-not-is_kind : goal.returns-then-not-is_kind
returns-then-not-is_kind c = refuted (λ done. true≢false (sym (c.is_kind.ensures.slab.1 (sym (slab_table c.args.words.now c.args.start) ∙ done.slab, done.kind)) ∙ c.if-not-is_kind.true))

pub returns : goal.returns
returns c =
    let is = c.is_kind.ensures.slab.0 c.if-not-is_kind.false in
    done_by c.args.words.now c.args.start c.is_all_dead.result is.0 is.1 c.is_all_dead.ensures
