use Rattle.std.proofs.Common.{rules, arith, ◌≡◌, ap}
use Rattle.shared_pool.specs.Passes.{PassState, fresh_pass}
use Rattle.pool_tests.proofs.NewCallers.{fresh_can}
use Rattle.pool_tests.proofs.callers.pool_of.Goals as goal

pub returns-clause-zero : goal.returns-clause-zero
returns-clause-zero g c =
    let is : c.in-Some-pop.zero ≡ fresh_pass c.in-Ok.started.pool.locks 0 = search rules in
    (fresh_can 0 1000 c.in-Ok.started.pool c.in-Some-pop.zero (omega arith) is, ap (λ (p : PassState). p.number) is)

pub returns-clause-one : goal.returns-clause-one
returns-clause-one g c =
    let is : c.in-Some.one ≡ fresh_pass c.in-Ok.started.pool.locks 1 = search rules in
    (fresh_can 1 1000 c.in-Ok.started.pool c.in-Some.one (omega arith) is, ap (λ (p : PassState). p.number) is)
