-- Locks with all their seats, none of which was used.
use Rattle.std.specs.Prelude.{◌≡◌, ℕ, List, []}
use Rattle.arena_lock.specs.Journal.{Each}
use Rattle.arena_lock.specs.Known.{Lock, Known, new_seats}

-- the lock has so many seats, its value's journal was empty at first, and these are its seats
pub record IsBegun (seats : ℕ) (s : Lock × List Known) : Type 0 where
  pub fresh : s.0.start ≡ []
  pub count : s.0.seats ≡ seats
  pub dealt : s.1 ≡ new_seats s.0.id s.0.opening [] 0 seats

abbrev pub AllBegun : ℕ → List (Lock × List Known) → Type 0
AllBegun seats = Each (IsBegun seats)

-- each lock has this many seats and began with an empty journal
abbrev pub AllNew : ℕ → List Lock → Type 0
AllNew seats = Each (λ (l : Lock). (l.start ≡ []) × (l.seats ≡ seats))
