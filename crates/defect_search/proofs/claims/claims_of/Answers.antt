use Rattle.std.proofs.Common.{Vec, Global, ◌+◌, ap, sym, subst, ◌∙◌, arith}
use Rattle.image_tables.specs.Tables.{tables_of}
use Rattle.defect_search.specs.declared.claim.Claim.{Claim}
use Rattle.defect_search.proofs.ClaimLists.{AreClaimsBelow, no_claims, claims_skip, claims_push, claims_all}
use Rattle.defect_search.proofs.claims.claims_of.Goals as goal
use Rattle.defect_search.proofs.claims.claims_of.Goals.{in-Some+in_ok-push, in_default}

pub loop-root-init : goal.loop-root-init
loop-root-init c = subst (AreClaimsBelow (tables_of c.args.words.now) 0) (sym c.new-claims.ensures.items) (no_claims (tables_of c.args.words.now))

pub loop-root-preserved : goal.loop-root-preserved
loop-root-preserved c =
    let t = tables_of c.args.words.now in
    let n = c.loop-root.root in
    elim c.match-claim_of.branch [
      | in-Some+in_ok-push w ↦ subst (AreClaimsBelow t (n + 1)) (sym (ap (λ (v : Vec Claim Global). v.items) w.claims-is ∙ w.in_ok-push.ensures.items))
          (claims_push t n c.loop-root.claims.items w.in-Some.claim w.in-Some.ensures c.loop-root.invariant)
      | in_default w ↦ subst (AreClaimsBelow t (n + 1)) (sym (ap (λ (v : Vec Claim Global). v.items) w.claims-is)) (claims_skip t n c.loop-root.claims.items w.in_default.ensures c.loop-root.invariant)
    ]

pub returns : goal.returns
returns c = claims_all c.args.words.now c.loop-root.root c.loop-root.claims.items c.requires.wal (omega (arith, c.roots_of-root-end.ensures.count)) c.loop-root.invariant
