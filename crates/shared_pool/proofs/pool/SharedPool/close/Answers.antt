use Rattle.std.proofs.Common.{ℕ, ◌∙◌, ap, sym, subst, map, List}
use Rattle.shared_pool.proofs.Common.{Lock, Opening}
use Rattle.shared_pool.specs.Closed.{AllFitLocks, HasAll, AllClosed}
use Rattle.shared_pool.specs.Passes.{PoolState}
use Rattle.shared_pool.specs.Rows.{each_of}
use Rattle.shared_pool.proofs.Closings.{map_twice, some_passes}
use Rattle.shared_pool.proofs.pool.SharedPool.close.Goals as goal

pub close_all-requires-clause-fits : goal.close_all-requires-clause-fits
close_all-requires-clause-fits g c = subst (λ ts. AllFitLocks ts c.args.passes.items) (map_twice (λ (l : Lock). l.id) _ c.self.inside.locks.items) (subst (λ (z : PoolState). AllFitLocks (map (λ (l : Lock). l.id) z.locks) c.args.passes.items) (sym c.self.view_is) c.requires.fits)

pub close_all-requires-clause-some : goal.close_all-requires-clause-some
close_all-requires-clause-some g c =
    some_passes c.self.inside.seats c.args.passes.items c.self.invariant.0
    (subst (λ (n : ℕ). HasAll n (map (λ p. p.number) c.args.passes.items)) (sym (ap (λ (z : PoolState). z.seats) c.self.view_is)) c.requires.all)

pub returns-clause-closed : goal.returns-clause-closed
returns-clause-closed g c =
    subst (λ (z : ℕ × List Opening). AllClosed z.0 0 c.args.passes.items z.1 (each_of c.close_all.result.items (λ e. (e.journal.items, e.arena))))
    (λ i. (ap (λ (z : PoolState). z.seats) c.self.view_is i, (sym (map_twice (λ (l : Lock). l.opening) _ c.self.inside.locks.items) ∙ ap (λ (z : PoolState). map (λ (l : Lock). l.opening) z.locks) c.self.view_is) i)) c.close_all.ensures
