use Rattle.shared_pool.proofs.Common.{ArenaState, vec_len, vec_capacity, padded_value, Entry}
use Rattle.std.proofs.Common.{◌≡◌, ◌<◌, ◌≤◌, ◌+◌, ◌++◌, map, length, List}
use Rattle.shared_pool.specs.Begun.{AllNew}
use Rattle.shared_pool.specs.Closed.{AllFitLocks, HasAll}
use Rattle.shared_pool.specs.Rows.{each_of, AllRoom}
use Rattle.shared_pool.proofs.Closings.{AllEnded}
use Rattle.shared_pool.proofs.closing.close_all.Given as goal

abbrev pub invariant-loop-locks : goal.invariant-loop-locks
invariant-loop-locks g l =
    ((0 < length l.passes.items)
    × AllFitLocks (each_of l.locks.items (λ z. (padded_value z).id)) l.passes.items
    × AllNew l.seats (each_of l.locks.items (λ z. padded_value z))
    × HasAll l.seats (map (λ p. p.number) l.passes.items)
    × ((cs : List (List Entry × ArenaState)) → AllEnded l.seats l.passes.items (each_of l.locks.items (λ z. (padded_value z).opening)) cs
    → AllEnded l.seats l.fn.passes.items (each_of l.fn.locks.items (λ z. (padded_value z).opening)) (each_of l.out.items (λ c. (c.journal.items, c.arena)) ++ cs)))
    × (length l.rows.items ≡ length l.locks.items) × AllRoom (length l.passes.items) (each_of l.rows.items (λ r. (vec_len r, vec_capacity r)))
    × (vec_len l.out + length l.locks.items ≤ vec_capacity l.out)

abbrev pub decreases-loop-locks : goal.decreases-loop-locks
decreases-loop-locks g l = length l.locks.items
