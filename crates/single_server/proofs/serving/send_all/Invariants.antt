use Rattle.std.proofs.Common.{◌≡◌, take}
use Rattle.arena_server.specs.Senders.{sent_at}
use Rattle.arena_server.specs.Owners.{asked}
use Rattle.arena_server.specs.Servers.{IsSenderOf}
use Rattle.single_server.proofs.serving.send_all.Given as goal

abbrev pub invariant-loop-call : goal.invariant-loop-call
invariant-loop-call g l = IsSenderOf l.server l.sender × (l.sender.number ≡ l.initial.sender.number) × (asked (sent_at l.sender 0) ≡ take l.call-index l.calls)
