use Rattle.std.proofs.Common.{◌+◌, ◌∙◌, sym, subst, arith}
use Rattle.std.proofs.lemmas.Bool.{false≢true}
use Rattle.image_defects.specs.Least.{IsLeastOf}
use Rattle.defect_search.specs.Pairs.{DoClash}
use Rattle.gc_search.proofs.Sweeps.{IsPartnerBelow, partner_none, partner_more, partner_passed, partner_all}
use Rattle.gc_search.proofs.shared.partner_of.Goals.{then-other-one+then-do_overlap, else-other-one, else-other-one-via-then-other-one+else-do_overlap, else-other-one-via-else-other-one}
use Rattle.gc_search.proofs.shared.partner_of.Goals as goal

pub loop-j-preserved : goal.loop-j-preserved
loop-j-preserved c =
    let claims = c.args.sorted.now in
    let i = c.args.i in
    let j = c.loop-j.j in
    elim c.if-other-one.branch [
      | then-other-one+then-do_overlap w ↦ subst (IsLeastOf (IsPartnerBelow claims i (j + 1))) (sym w.found-is)
          (partner_more claims i j w.lesser.result c.loop-j.found
          (record { first = c.requires; second = c.loop-j-test.true; differ = λ same. w.if-other-one.true (sym same); overlap = w.do_overlap.ensures.0 w.if-do_overlap.true })
          w.lesser.ensures c.loop-j.invariant)
      | else-other-one w ↦
          let none : ¬ (DoClash claims i j) = elim w.else-other-one.branch [
            | else-other-one-via-then-other-one+else-do_overlap v ↦ λ clash. false≢true (sym v.if-do_overlap.false ∙ v.do_overlap.ensures.1 clash.overlap)
            | else-other-one-via-else-other-one v ↦ λ clash. clash.differ (sym v.if-other-one.false)
          ] in
          subst (IsLeastOf (IsPartnerBelow claims i (j + 1))) (sym w.found-is) (partner_passed claims i j c.loop-j.found none c.loop-j.invariant)
    ]

pub loop-j-init : goal.loop-j-init
loop-j-init c = partner_none c.args.sorted.now c.args.i

pub returns : goal.returns
returns c = partner_all c.args.sorted.now c.args.i c.loop-j.j c.loop-j.found (omega arith) c.loop-j.invariant
