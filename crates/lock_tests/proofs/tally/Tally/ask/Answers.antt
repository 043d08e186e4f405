use Rattle.std.proofs.Common.{rules, ◌≡◌, [], ◌∷◌, ◌++◌, sym, subst}
use Rattle.arena_lock.specs.Legality.{IsLegal, no_opening}
use Rattle.lock_tests.specs.Tally.{refusal}
use Rattle.lock_tests.proofs.Asking.{asked_more}
use Rattle.lock_tests.proofs.tally.Tally.ask.Goals as goal

pub returns-clause-legal : goal.returns-clause-legal
returns-clause-legal c =
    let items : c.push.new.self.items ≡ c.self.inside.journal.items ++ refusal c.args.seat c.args.size ∷ [] = search rules in
    subst (IsLegal no_opening) (sym items) (asked_more _ _ _ (subst (IsLegal no_opening) (sym c.self.view_is) c.requires.legal))
