use Rattle.std.proofs.Common.{◌≡◌, ◌≤◌, ◌+◌, ℕ, length, List}
use Rattle.shared_pool.proofs.Common.{Lock, vec_len, vec_capacity}
use Rattle.shared_pool.specs.Passes.{fresh_passes}
use Rattle.shared_pool.specs.Rows.{each_of, AllRoom, lines}
use Rattle.shared_pool.proofs.dealing.deal_out.Given as goal

abbrev pub invariant-loop-number : goal.invariant-loop-number
invariant-loop-number l =
    (m : ℕ) × (l.number + m ≡ l.seats)
    × ((locks : List Lock) → each_of l.fn.dealts (λ d. d.items) ≡ lines 0 l.seats locks
    → (each_of l.dealts (λ d. d.items) ≡ lines l.number m locks) × (l.passes.items ≡ fresh_passes locks 0 l.number))
    × (length l.rows.items ≡ m) × AllRoom (length l.dealts) (each_of l.rows.items (λ r. (vec_len r, vec_capacity r)))
    × (vec_len l.passes ≡ l.number) × (l.seats ≤ vec_capacity l.passes)
