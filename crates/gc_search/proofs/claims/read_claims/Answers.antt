use Rattle.std.proofs.Common.{Vec, Global, ◌+◌, ap, sym, subst, ◌∙◌, arith}
use Rattle.gc_check.specs.Heap.{gc_tables}
use Rattle.defect_search.specs.declared.claim.Claim.{Claim}
use Rattle.gc_search.proofs.ClaimLists.{AreClaimsBelow, claims_skip, claims_push, claims_all}
use Rattle.gc_search.proofs.Standing.{root_below}
use Rattle.gc_search.proofs.claims.read_claims.Goals.{in-Some, in_default}
use Rattle.gc_search.proofs.claims.read_claims.Goals as goal

pub loop-root-preserved : goal.loop-root-preserved
loop-root-preserved c =
    let t = gc_tables c.args.words.now in
    let n = c.loop-root.root in
    elim c.match-claim_of.branch [
      | in-Some w ↦ record {
        claims = subst (AreClaimsBelow t (n + 1)) (sym (ap (λ (v : Vec Claim Global). v.items) w.claims-is ∙ w.push_reserved.ensures.items))
            (claims_push t n c.loop-root.claims.items w.in-Some.claim w.in-Some.ensures c.loop-root.invariant.claims);
        room = rw w.claims-is (omega (arith, w.push_reserved.ensures.capacity, c.loop-root.invariant.room));
      }
      | in_default w ↦ record {
        claims = subst (AreClaimsBelow t (n + 1)) (sym (ap (λ (v : Vec Claim Global). v.items) w.claims-is)) (claims_skip t n c.loop-root.claims.items w.in_default.ensures c.loop-root.invariant.claims);
        room = rw w.claims-is c.loop-root.invariant.room;
      }
    ]

pub returns : goal.returns
returns c = claims_all (gc_tables c.args.words.now) _ c.loop-root.root c.loop-root.claims.items (root_below c.args.words.now) (omega (arith, c.roots_of-root-end.ensures.count)) c.loop-root.invariant.claims
