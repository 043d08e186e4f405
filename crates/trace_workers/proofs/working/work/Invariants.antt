use Rattle.std.proofs.Common.{◌≡◌, ◌≤◌, take}
use Rattle.shared_pool.specs.Passes.{IsPassOf}
use Rattle.trace_workers.specs.Workers.{HasMadeOwn, HasTurns}
use Rattle.trace_workers.proofs.working.work.Given as goal

abbrev pub invariant-loop-k : goal.invariant-loop-k
invariant-loop-k g l = IsPassOf l.pool l.pass × (l.pass.number ≡ l.initial.pass.number) × (l.made ≤ l.k) × HasMadeOwn (take l.k l.calls) l.pass × HasTurns l.k l.pass
