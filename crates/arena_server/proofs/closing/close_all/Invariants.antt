use Rattle.std.proofs.Common.{◌≡◌, ◌≤◌, ◌+◌, ◌++◌, ℕ, drop, length, List}
use Rattle.arena_server.proofs.Common.{vec_len, vec_capacity, Entry, ArenaState, is_in, HasAll, each_of, AllRoom}
use Rattle.arena_server.specs.declared.request.Request.{Request}
use Rattle.arena_server.specs.Senders.{AllSendTo, numbers}
use Rattle.arena_server.specs.Emptied.{arenas_of, list_at, held_at, AllTakeThere, AllEmptied}
use Rattle.arena_server.specs.Servers.{queue_ids, AllHaveRoom}
use Rattle.arena_server.proofs.Arenas.{all_from}
use Rattle.arena_server.proofs.closing.close_all.Given as goal

abbrev pub invariant-loop-queues : goal.invariant-loop-queues
invariant-loop-queues g l = record {
  queues : AllHaveRoom l.room l.queues.items × (length l.closed.items ≡ length l.queues.items);
  ids : queue_ids l.queues.items ≡ drop (length l.out.items) (queue_ids l.fn.queues.items);
  count : length l.out.items + length l.queues.items ≡ length l.fn.queues.items;
  tills : AllTakeThere (queue_ids l.fn.queues.items) l.enlisted l.tills.items;
  found : (k : ℕ) → length l.out.items ≤ k → (list_at l.tills.items k ≡ list_at l.fn.tills.items k) × (held_at l.tills.items k ≡ held_at l.fn.tills.items k) × (is_in k (arenas_of l.tills.items) ≡ is_in k (arenas_of l.fn.tills.items));
  lines : AllSendTo (queue_ids l.queues.items) l.senders.items × HasAll l.enlisted (numbers l.senders.items);
  senders : l.senders.items ≡ all_from (length l.out.items) l.fn.senders.items;
  lefts : (length l.lefts.items ≡ length l.queues.items) × AllRoom (l.room + 1) (each_of l.lefts.items (λ d. (vec_len d, vec_capacity d)));
  out : vec_len l.out + length l.queues.items ≤ vec_capacity l.out;
  emptied : (ls : List (List Request)) → AllEmptied (length l.out.items) l.fn.senders.items l.fn.tills.items ls → AllEmptied 0 l.fn.senders.items l.fn.tills.items (each_of l.out.items (λ d. d.left.items) ++ ls);
  closed : each_of {B = List Entry × ArenaState} l.out.items (λ d. (d.journal.items, d.arena)) ++ each_of {B = List Entry × ArenaState} l.closed.items (λ d. (d.journal.items, d.arena)) ≡ each_of {B = List Entry × ArenaState} l.fn.closed.items (λ d. (d.journal.items, d.arena));
}

abbrev pub decreases-loop-queues : goal.decreases-loop-queues
decreases-loop-queues g l = length l.queues.items
