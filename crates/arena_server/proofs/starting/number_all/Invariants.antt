use Rattle.std.proofs.Common.{◌≡◌, ◌≤◌, ◌+◌, ◌++◌, ℕ, length, List}
use Rattle.arena_server.proofs.Common.{vec_len, vec_capacity, TableId, each_of}
use Rattle.arena_server.specs.Started.{new_senders, AllNewRows}
use Rattle.arena_server.proofs.starting.number_all.Given as goal

abbrev pub invariant-loop-number : goal.invariant-loop-number
invariant-loop-number l = (m : ℕ) × (l.number + m ≡ l.count) × (length l.rows.items ≡ m) × (vec_len l.senders + m ≤ vec_capacity l.senders)
    × ((queues : List TableId) → AllNewRows 0 queues (each_of l.fn.rows.items (λ r. r.items)) → AllNewRows l.number queues (each_of l.rows.items (λ r. r.items)) × (l.senders.items ++ new_senders queues l.number m ≡ new_senders queues 0 l.count))
