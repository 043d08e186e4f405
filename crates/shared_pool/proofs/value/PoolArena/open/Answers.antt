use Rattle.std.proofs.Common.{rules, ◌≡◌, [], subst, sym, List}
use Rattle.shared_pool.proofs.Common.{Entry, ArenaState, opened, IsBehind, behind_none, behind_legal}
use Rattle.shared_pool.proofs.value.PoolArena.open.Goals as goal

pub invariant_of-result : goal.invariant_of-result
invariant_of-result g c =
    let was : c.of.result.value ≡ c.args.arena = search rules in
    let none : c.new.result.items ≡ [] = search rules in
    subst (λ (z : ArenaState × List Entry). IsBehind (opened z.0) z.1 c.args.arena) (λ i. (sym was i, sym none i)) (behind_none c.args.arena c.pmem-memory.ensures.ready c.pmem-memory.ensures.exact)

pub returns-clause-legal : goal.returns-clause-legal
returns-clause-legal g c = behind_legal (opened c.of.result.value) c.new.result.items c.args.arena (invariant_of-result g c)
