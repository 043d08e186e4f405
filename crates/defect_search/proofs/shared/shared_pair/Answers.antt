use Rattle.defect_search.proofs.Pairs.{apart_from_spread}
use Rattle.defect_search.proofs.Pairs.{no_sharing, first_or_none}
use Rattle.defect_search.proofs.shared.shared_pair.Goals as goal

pub returns-then-are_spread-clause-list : goal.returns-then-are_spread-clause-list
returns-then-are_spread-clause-list c = apart_from_spread c.args.claims.now c.args.sorted.now c.requires (c.are_spread.ensures c.if-are_spread.true)

pub returns-then-are_spread-clause-tables : goal.returns-then-are_spread-clause-tables
returns-then-are_spread-clause-tables c = λ t are. no_sharing t c.args.claims.now are (apart_from_spread c.args.claims.now c.args.sorted.now c.requires (c.are_spread.ensures c.if-are_spread.true))

pub returns-else-are_spread-clause-tables : goal.returns-else-are_spread-clause-tables
returns-else-are_spread-clause-tables c = λ t are. first_or_none t c.args.claims.now are c.first_pair.result c.first_pair.ensures
