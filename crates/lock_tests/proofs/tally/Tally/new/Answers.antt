use Rattle.std.proofs.Common.{rules, ◌≡◌, [], sym, subst}
use Rattle.arena_lock.specs.Legality.{IsLegal, no_opening}
use Rattle.lock_tests.proofs.Asking.{nothing_asked}
use Rattle.lock_tests.proofs.tally.Tally.new.Goals as goal

pub returns-clause-legal : goal.returns-clause-legal
returns-clause-legal c = let empty : c.new.result.items ≡ [] = search rules in subst (IsLegal no_opening) (sym empty) nothing_asked
