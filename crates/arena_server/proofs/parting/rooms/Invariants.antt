use Rattle.std.proofs.Common.{◌≡◌, length}
use Rattle.arena_server.proofs.Common.{vec_len, vec_capacity, each_of, AllRoom}
use Rattle.arena_server.proofs.parting.rooms.Given as goal

abbrev pub invariant-loop : goal.invariant-loop
invariant-loop g l = (length l.made.items ≡ l.counter) × AllRoom l.items (each_of l.made.items (λ r. (vec_len r, vec_capacity r)))
