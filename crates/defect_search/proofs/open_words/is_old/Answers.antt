use Rattle.std.proofs.Common.{◌/◌, arith}
use borrow.Author.Count.{below_more}
use Rattle.defect_search.proofs.Common.{tables_of, refuted, not_back, back_without}
use Rattle.defect_search.specs.OpenWords.{IsOldBlock}
use Rattle.defect_search.proofs.OpenEntries.{old_none, HasOldBlock}
use Rattle.defect_search.proofs.open_words.is_old.Goals.{in-Some+else-has_old_of, in_default}
use Rattle.defect_search.proofs.open_words.is_old.Goals as goal

pub loop-back-preserved : goal.loop-back-preserved
loop-back-preserved c =
    let t = tables_of c.args.words.now in
    let here : ¬ (HasOldBlock t (c.args.at / 16384) c.loop-back.back c.args.at c.args.place) =
    elim c.match-slab_back.branch [
      | in-Some+else-has_old_of w ↦ back_without (λ start. IsOldBlock t start c.args.at c.args.place) w.in-Some.ensures w.has_old_of.ensures w.if-has_old_of.false
      | in_default w ↦ not_back (λ start. IsOldBlock t start c.args.at c.args.place) (λ start old. old.slab) w.in_default.ensures
    ] in
    below_more (λ d. ¬ (HasOldBlock t (c.args.at / 16384) d c.args.at c.args.place)) c.loop-back.back c.loop-back.invariant here

pub returns : goal.returns
returns c = refuted (old_none c.args.words.now c.args.at c.args.place c.loop-back.back c.requires.slabs (omega arith) c.loop-back.invariant)
