use Rattle.std.proofs.Common.{◌≡◌, ◌≤◌, take}
use Rattle.arena_server.specs.Servers.{IsSenderOf}
use Rattle.serve_runs.specs.Sent.{HasSentAll}
use Rattle.serve_runs.proofs.sending.send_calls.Given as goal

abbrev pub invariant-loop-k : goal.invariant-loop-k
invariant-loop-k g l = IsSenderOf l.server l.sender × (l.sender.number ≡ l.initial.sender.number) × (l.sent ≤ l.k) × HasSentAll (take l.k l.calls) l.sender
