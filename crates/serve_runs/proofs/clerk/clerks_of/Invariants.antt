use Rattle.std.proofs.Common.{◌≡◌, ◌++◌, length}
use Rattle.serve_runs.proofs.Common.{Each, each_of, ServerState}
use Rattle.serve_runs.specs.Clerks.{IsNewOwner, IsReady}
use Rattle.serve_runs.proofs.clerk.clerks_of.Given as goal

abbrev pub invariant-loop-alloc : goal.invariant-loop-alloc
invariant-loop-alloc l = record {
  owners : each_of l.clerks.items (λ c. c.owner) ++ l.owners.items ≡ l.fn.owners.items;
  ready : (server : ServerState) → Each (IsNewOwner server) l.fn.owners.items → Each (IsReady server l.calls) l.clerks.items;
}

abbrev pub decreases-loop-alloc : goal.decreases-loop-alloc
decreases-loop-alloc l = length l.owners.items
