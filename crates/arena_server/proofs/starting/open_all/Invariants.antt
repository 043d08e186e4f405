use Rattle.std.proofs.Common.{◌≡◌, ◌≤◌, ◌+◌, ℕ, length}
use Rattle.arena_server.proofs.Common.{vec_len, vec_capacity, each_of}
use Rattle.arena_server.specs.Servers.{queue_ids, AllHaveRoom}
use Rattle.arena_server.specs.Started.{AllNewRows, AllSpace, AllNewTakers}
use Rattle.arena_server.proofs.starting.open_all.Given as goal

abbrev pub invariant-loop : goal.invariant-loop
invariant-loop l = record {
  queues : AllHaveRoom l.room l.queues.items × (length l.queues.items ≡ l.counter);
  takers : AllNewTakers (queue_ids l.queues.items) l.senders l.takers.items;
  rows : AllNewRows 0 (queue_ids l.queues.items) (each_of l.rows.items (λ r. r.items)) × (length l.rows.items ≡ l.senders);
  left : (m : ℕ) × (l.counter + m ≡ l.count) × AllSpace m (each_of l.rows.items (λ r. (vec_len r, vec_capacity r))) × (vec_len l.queues + m ≤ vec_capacity l.queues) × (vec_len l.takers + m ≤ vec_capacity l.takers);
}
