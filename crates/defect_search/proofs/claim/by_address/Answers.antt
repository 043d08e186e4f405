use Rattle.std.proofs.Common.{subst, rules}
use Rattle.std.specs.List.Sorted.{IsPermutation}
use Rattle.std.proofs.lemmas.List.Sorted.{IsNonDecreasingBy-from_sort_by_key}
use Rattle.defect_search.specs.declared.claim.Claim.{Claim}
use Rattle.defect_search.specs.Claims.{no_claim}
use Rattle.defect_search.proofs.Blocks.{AreBlocks-sorted}
use Rattle.defect_search.proofs.claim.by_address.Goals as goal

pub returns-clause-sorted : goal.returns-clause-sorted
returns-clause-sorted c =
    let rises = IsNonDecreasingBy-from_sort_by_key (λ (x : Claim). x.at) _ c.in_ok-sort_by_key.ensures.sorted (λ a r q k. search rules) in
    record {
      same = subst (λ xs. IsPermutation xs c.sort_by_key.new.self.items) c.in_ok-sorted.ensures.items c.in_ok-sort_by_key.ensures.permutation;
      rising = record { each = λ i j order below. rises i j no_claim order below };
    }

pub returns-clause-blocks : goal.returns-clause-blocks
returns-clause-blocks c = λ t are. AreBlocks-sorted t c.args.claims.now c.sort_by_key.new.self.items (returns-clause-sorted c) are
