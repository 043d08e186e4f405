use Rattle.std.proofs.Common.{◌≡◌, ◌<◌, ◌+◌, length}
use Rattle.shared_pool.specs.Passes.{part_at}
use Rattle.arena_server.specs.Servers.{IsOwnerOf}
use Rattle.single_server.proofs.serving.serve_all.Given as goal

abbrev pub invariant-loop : goal.invariant-loop
invariant-loop g l = IsOwnerOf l.server l.owner × (l.owner.pass.number ≡ l.initial.owner.pass.number) × (length l.owner.list ≡ l.counter) × (l.count < (part_at l.owner.pass l.owner.pass.number).turns + l.counter)
