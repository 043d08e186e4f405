use Rattle.std.proofs.Common.{◌≡◌, ◌<◌, ◌≤◌, ◌+◌, length, false}
use Rattle.shared_pool.specs.Passes.{part_at}
use Rattle.arena_server.specs.Servers.{IsSenderOf, IsOwnerOf}
use Rattle.call_times.proofs.serve_each.Given as goal

abbrev pub invariant-loop-call : goal.invariant-loop-call
invariant-loop-call g l =
    IsSenderOf l.server l.sender × IsOwnerOf l.server l.owner × (l.owner.skipped ≡ false)
    × (length l.calls < (part_at l.owner.pass l.owner.pass.number).turns + l.call-index) × (l.served ≤ l.call-index)
