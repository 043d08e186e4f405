use Rattle.std.proofs.Common.{rules}
use Rattle.std.proofs.lemmas.List.Sorted.{IsNonDecreasingBy-from_sort, answers_always}
use Rattle.gc_check.specs.Heap.{gc_tables}
use Rattle.defect_search.specs.declared.claim.Claim.{Claim}
use Rattle.defect_search.specs.Claims.{no_claim}
use Rattle.gc_search.proofs.ClaimLists.{AreGcClaims-sorted}
use Rattle.gc_search.proofs.claims.read_sorted.Goals as goal

pub returns-clause-claims : goal.returns-clause-claims
returns-clause-claims c = AreGcClaims-sorted (gc_tables c.args.words.now) _ _ c.sort_unstable_by_key.ensures.permutation c.read_claims.ensures

pub returns-clause-rising : goal.returns-clause-rising
returns-clause-rising c =
    let key = λ (x : Claim). x.at in
    let rises = IsNonDecreasingBy-from_sort key _ (c.sort_unstable_by_key.ensures.sorted key (answers_always _ _ _ (λ f a r g h. search rules))) in
    record { each = λ i j order below. rises i j no_claim order below }
