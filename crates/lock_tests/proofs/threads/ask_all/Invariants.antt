use Rattle.std.proofs.Common.{◌≡◌, ◌∷◌, [], ◌≤◌, ◌+◌, length, map, take}
use Rattle.lock_tests.specs.Tally.{refusal}
use Rattle.lock_tests.proofs.threads.ask_all.Given as goal

abbrev pub invariant-loop-size : goal.invariant-loop-size
invariant-loop-size g l =
    (l.seat.lock ≡ l.lock.id) × (l.seat.numbers ≡ l.number ∷ []) × (l.seat.mine ≡ map (refusal l.number) (take l.size-index l.sizes) ∷ [])
    × (length l.sizes ≤ l.seat.turns + l.size-index)
