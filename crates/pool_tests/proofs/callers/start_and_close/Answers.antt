use Rattle.std.proofs.Common.{ℕ, List, map, ap, sym, subst}
use Rattle.arena_lock.specs.Known.{Lock}
use Rattle.shared_pool.specs.Closed.{AllFitLocks, HasAll}
use Rattle.shared_pool.specs.Passes.{PassState}
use Rattle.shared_pool.proofs.AllPasses.{all_fit, has_fresh}
use Rattle.pool_tests.proofs.callers.start_and_close.Goals as goal

pub close-requires-clause-fits : goal.close-requires-clause-fits
close-requires-clause-fits g c =
    let pool = c.in-Ok.started.pool in
    subst (λ ps. AllFitLocks (map (λ (l : Lock). l.id) pool.locks) ps) (sym c.in-Ok.ensures.passes) (all_fit pool.locks 0 c.args.seats)

pub close-requires-clause-all : goal.close-requires-clause-all
close-requires-clause-all g c =
    let pool = c.in-Ok.started.pool in
    let number = λ (p : PassState). p.number in
    subst (λ (z : ℕ × List ℕ). HasAll z.0 z.1) (λ i. (sym c.in-Ok.ensures.seats i, ap (map number) (sym c.in-Ok.ensures.passes) i)) (has_fresh pool.locks c.args.seats)
