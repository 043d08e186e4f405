use Rattle.std.proofs.Common.{◌≡◌, true, false, ltb, rules, arith}
use Rattle.std.specs.List.Sorted.{IsPartitionPoint}
use Rattle.defect_search.proofs.Common.{ltb-true, ltb-false, IsPartitionPoint-from_clause, IsPartitionedBy-ltb, IsNonDecreasingBy-from_default}
use Rattle.defect_search.specs.declared.claim.Claim.{Claim}
use Rattle.defect_search.specs.Claims.{no_claim, claim_in}
use Rattle.defect_search.proofs.claim.place_of.Goals as goal

parted : (c : goal.After-partition_point) → IsPartitionPoint (λ (y : Claim). ltb y.at c.args.at ≡ true) (λ (y : Claim). ltb y.at c.args.at ≡ false) c.args.sorted.now c.partition_point.result
parted c =
    let xs = c.args.sorted.now in
    IsPartitionPoint-from_clause (λ (y : Claim). ltb y.at c.args.at) xs c.partition_point.result c.partition_point.ensures.partitioned
    (IsPartitionedBy-ltb (λ (y : Claim). y.at) xs c.args.at (IsNonDecreasingBy-from_default (λ (y : Claim). y.at) xs no_claim c.requires.each))
    (λ a r q k. search rules)

pub returns-clause-before : goal.returns-clause-before
returns-clause-before c = λ k below. ltb-true (claim_in c.args.sorted.now k).at c.args.at ((parted c).0 k no_claim (omega arith) below)

pub returns-clause-behind : goal.returns-clause-behind
returns-clause-behind c = λ k low high. ltb-false (claim_in c.args.sorted.now k).at c.args.at ((parted c).1 k no_claim low high)
