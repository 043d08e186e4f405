use Rattle.std.proofs.Common.{◌≡◌, ◌≤◌, ◌+◌, ◌++◌, length}
use Rattle.shared_pool.proofs.Common.{vec_len, vec_capacity, padded_value}
use Rattle.shared_pool.specs.Begun.{AllNew, AllBegun}
use Rattle.shared_pool.specs.Rows.{each_of, lines}
use Rattle.shared_pool.proofs.dealing.split_all.Given as goal

abbrev pub invariant-loop-begun : goal.invariant-loop-begun
invariant-loop-begun g l =
    AllBegun l.seats (each_of l.begun.items (λ b. (padded_value b.lock, b.dealt.items)))
    × AllNew l.seats (each_of l.locks.items (λ z. padded_value z))
    × (each_of l.dealts.items (λ d. d.items) ≡ lines 0 l.seats (each_of l.locks.items (λ z. padded_value z)))
    × (each_of l.locks.items (λ z. (padded_value z).opening) ++ each_of l.begun.items (λ b. (padded_value b.lock).opening) ≡ each_of l.fn.begun.items (λ b. (padded_value b.lock).opening))
    × (length l.dealts.items + length l.begun.items ≡ length l.fn.begun.items)
    × (vec_len l.locks + length l.begun.items ≤ vec_capacity l.locks)
    × (vec_len l.dealts + length l.begun.items ≤ vec_capacity l.dealts)

abbrev pub decreases-loop-begun : goal.decreases-loop-begun
decreases-loop-begun g l = length l.begun.items
