use Rattle.std.proofs.Common.{◌≡◌, ◌↔◌, ℕ, true, ◌/◌, subst, arith}
use borrow.Author.Count.{below_more}
use Rattle.defect_search.proofs.Common.{tables_of, refuted, not_back, back_without}
use Rattle.defect_search.specs.OpenWords.{IsNewBlock}
use Rattle.defect_search.proofs.OpenEntries.{new_none, HasNewBlock}
use Rattle.defect_search.proofs.open_words.is_new.Goals.{in-Some+else-has_new, in_default}
use Rattle.defect_search.proofs.open_words.is_new.Goals as goal

pub loop-back-preserved : goal.loop-back-preserved
loop-back-preserved c =
    let t = tables_of c.args.words.now in
    let here : ¬ (HasNewBlock t (c.args.at / 16384) c.loop-back.back c.args.at) =
    elim c.match-slab_back.branch [
      | in-Some+else-has_new w ↦ back_without (λ start. IsNewBlock t start c.args.at) w.in-Some.ensures (subst (λ (a : ℕ). (w.has_new.result ≡ true) ↔ IsNewBlock t w.in-Some.slab.start a) w.from.ensures w.has_new.ensures) w.if-has_new.false
      | in_default w ↦ not_back (λ start. IsNewBlock t start c.args.at) (λ start new. new.slab) w.in_default.ensures
    ] in
    below_more (λ d. ¬ (HasNewBlock t (c.args.at / 16384) d c.args.at)) c.loop-back.back c.loop-back.invariant here

pub returns : goal.returns
returns c = refuted (new_none c.args.words.now c.args.at c.loop-back.back c.requires.slabs (omega arith) c.loop-back.invariant)
