use Rattle.std.proofs.Common.{rules, ◌≡◌, ◌++◌, [], ◌∷◌, subst, sym, List}
use Rattle.shared_pool.proofs.Common.{Entry, opened, IsBehind, behind_answered, behind_legal}
use Rattle.shared_pool.proofs.value.PoolArena.receive.Goals as goal

pub invariant_of-self-2 : goal.invariant_of-self-2
invariant_of-self-2 g c =
    let o = opened c.self.inside.was.value in
    let items : c.push_reserved.new.self.items ≡ c.self.inside.journal.items ++ c.answer-entry.result ∷ [] = search rules in
    subst (λ (l : List Entry). IsBehind o l c.answer-entry.new.arena) (sym items)
    (behind_answered o c.self.inside.journal.items c.self.inside.arena c.answer-entry.new.arena c.args.seat c.args.call c.answer-entry.result c.self.invariant
    c.answer-entry.ensures.seat c.answer-entry.ensures.call c.answer-entry.ensures.answered)

pub returns-clause-legal : goal.returns-clause-legal
returns-clause-legal g c = behind_legal (opened c.self.inside.was.value) c.push_reserved.new.self.items c.answer-entry.new.arena (invariant_of-self-2 g c)
