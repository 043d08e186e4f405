use Rattle.std.proofs.Common.{◌≡◌, ◌≤◌, ◌+◌, ◌++◌, ℕ, length, List}
use Rattle.arena_server.proofs.Common.{vec_len, vec_capacity, TableId, Lock, fresh_passes}
use Rattle.arena_server.specs.Started.{new_owners, AllNewTakers}
use Rattle.arena_server.proofs.starting.seat_all.Given as goal

abbrev pub invariant-loop-arena : goal.invariant-loop-arena
invariant-loop-arena l = (m : ℕ) × (l.arena + m ≡ l.count) × (vec_len l.owners + m ≤ vec_capacity l.owners)
    × ((locks : List Lock) (queues : List TableId) → l.fn.passes.items ≡ fresh_passes locks 0 l.count → AllNewTakers queues l.senders l.fn.takers.items → length queues ≡ l.count
    → (l.passes.items ≡ fresh_passes locks l.arena m) × ((rest : List TableId) × (length rest ≡ m) × AllNewTakers rest l.senders l.takers.items × (l.owners.items ++ new_owners locks l.senders l.arena rest ≡ new_owners locks l.senders 0 queues)))
