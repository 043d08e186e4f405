use Rattle.std.proofs.Common.{◌≡◌, ◌≤◌, ◌+◌, ◌^◌, length}
use Rattle.std.specs.Vec.{vec_len, vec_capacity}
use Rattle.arena_server.specs.Servers.{IsOwnerOf}
use Rattle.serve_runs.specs.Clerks.{HasNoted, turns_left}
use Rattle.serve_runs.proofs.serving.serve_arena.Given as goal

abbrev pub invariant-loop : goal.invariant-loop
invariant-loop g l = record {
  of : IsOwnerOf l.server l.clerk.owner;
  number : l.clerk.owner.pass.number ≡ l.initial.clerk.owner.pass.number;
  many : length l.clerk.owner.list ≡ l.counter;
  turns : 2 ^ 57 ≤ turns_left l.clerk.owner + l.counter;
  notes : vec_len l.clerk.senders ≤ l.counter;
  room : l.count ≤ vec_capacity l.clerk.senders;
  noted : HasNoted l.clerk;
}
