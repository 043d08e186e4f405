use Rattle.std.proofs.Common.{◌≡◌, ◌≤◌, ◌+◌, ◌++◌, length}
use Rattle.shared_pool.proofs.Common.{vec_len, vec_capacity, padded_value, opened}
use Rattle.shared_pool.specs.Begun.{AllBegun}
use Rattle.shared_pool.specs.Rows.{each_of}
use Rattle.shared_pool.proofs.starting.begin_all.Given as goal

abbrev pub invariant-loop-alloc : goal.invariant-loop-alloc
invariant-loop-alloc g l =
    (vec_len l.arenas + vec_len l.begun ≤ vec_capacity l.arenas)
    × (vec_len l.arenas + vec_len l.begun ≤ vec_capacity l.begun)
    × AllBegun l.seats (each_of l.begun.items (λ b. (padded_value b.lock, b.dealt.items)))
    × (each_of l.begun.items (λ b. (padded_value b.lock).opening) ++ each_of l.arenas.items (λ a. opened a) ≡ each_of l.fn.arenas.items (λ a. opened a))

abbrev pub decreases-loop-alloc : goal.decreases-loop-alloc
decreases-loop-alloc g l = length l.arenas.items
