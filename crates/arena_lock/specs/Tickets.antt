-- The rule of the lock's words: what is true between any two steps, whoever makes them.
--
-- Word 0 is the next ticket to be drawn, word 1 the ticket that is served, word 2 the published length of the journal. Slot
-- 0 is the value's: it lies there while no seat has the turn.
use Rattle.std.specs.Prelude.{◌≡◌, ℕ, ◌+◌, ◌*◌, ◌^◌, ◌<◌, ◌≤◌, Bool, true, false, List, [], ◌∷◌, length, slice_index, Option, Some}
use mathlib.Core.Option.{some}
use mathlib.Core.List.{IsPrefix}
use lib.ListN.{get_elem?}
use Rattle.atomic_table.specs.Seated.{TableId}
use Rattle.atomic_table.specs.Table.{State}
use Rattle.heap_model.specs.declared.call.Entry.{Entry}
use Rattle.arena_lock.specs.declared.opening.Opening.{Opening}
use Rattle.arena_lock.specs.declared.view.Past.{Past}
use Rattle.arena_lock.specs.declared.view.Standing.{Standing}
use Rattle.arena_lock.specs.declared.view.Standing.TheVariants.{Idle, Looked, Waits, InTurn}
use Rattle.arena_lock.specs.declared.view.SeatView.{SeatView}
use Rattle.arena_lock.specs.Journal.{calls_by, Each, calls_of, Since, numbers}
use Rattle.arena_lock.specs.Legality.{IsLegal, no_opening}

-- the seat in place j owns the number n, and has seen all its entries
abbrev pub Owned : (log seen : List Entry) (owner : ℕ → ℕ) (seats j n : ℕ) → Type 0
Owned log seen owner seats j n = (calls_by n log ≡ calls_by n seen) × (owner n ≡ j) × (n < seats)

-- what the holder of the seat in place j has learnt, where log is the journal whose length is published
pub record HasLearnt (opening : Opening) (seats : ℕ) (log : List Entry) (owner : ℕ → ℕ) (j : ℕ) (p : Past) : Type 0 where
  pub opens : p.opening ≡ opening
  pub seen : IsPrefix p.seen log
  pub told : IsPrefix p.told p.seen
  pub owned : Each (Owned log p.seen owner seats j) p.numbers
  pub mine : p.mine ≡ calls_of p.seen p.numbers
  pub known : p.known ≤ length log

-- where the seat in place j may stand: a ticket that it looked at is not ahead of the one served, a ticket that it has is
-- drawn, not yet passed, and no other seat's, and it has the turn only while this is served and the value is out
abbrev pub MayStand : (log : List Entry) (next served home : ℕ) (holder : ℕ → ℕ) (j : ℕ) → Standing → Type 0
MayStand log next served home holder j Idle = Unit {0}
MayStand log next served home holder j (Looked at) = at ≤ served
MayStand log next served home holder j (Waits ticket) = (served ≤ ticket) × (ticket < next) × (holder ticket ≡ j)
MayStand log next served home holder j (InTurn ticket base) = (ticket ≡ served) × (ticket < next) × (holder ticket ≡ j) × (home ≡ 0) × (base ≡ log)

-- what is true of the live seat in place j
pub record Knows (opening : Opening) (seats : ℕ) (log : List Entry) (next served home : ℕ) (owner holder : ℕ → ℕ) (j : ℕ) (v : SeatView) : Type 0 where
  pub past : HasLearnt opening seats log owner j v.past
  pub stands : MayStand log next served home holder j v.standing

-- whether a seat that stands so has the turn
abbrev pub in_turn : Standing → Bool
in_turn Idle = false
in_turn (Looked served) = false
in_turn (Waits ticket) = false
in_turn (InTurn ticket base) = true

-- the seat in place j has the turn
abbrev pub HasTurn : List SeatView → ℕ → Type 0
HasTurn views j = (v : SeatView) × (get_elem? views j ≡ some v) × (v.live ≡ true) × (in_turn v.standing ≡ true)

-- the turns that are left to all seats
abbrev pub all_turns : List SeatView → ℕ
all_turns [] = 0
all_turns (v ∷ vs) = v.turns + all_turns vs

-- The rule. `log` is the journal of which the length is published. `home` is 1 while the value lies in its slot, which is
-- while no seat has the turn, and else 0. `owner` of a number and `holder` of a ticket are places of seats. The next
-- ticket and the turns that are left to all seats make 2^63 at most, so that no word wraps.
pub record IsTicketed {T : Type 0} (opening_of : T → Opening) (journal : T → List Entry) (opening : Opening) (start : List Entry) (seats : ℕ) (s : State (Option T) SeatView) : Type 0 where
  pub log : List Entry
  pub owner : ℕ → ℕ
  pub holder : ℕ → ℕ
  pub home : ℕ
  pub wide : length s.words ≡ 3
  pub order : slice_index s.words 1 ≤ slice_index s.words 0
  pub room : slice_index s.words 0 + all_turns s.views ≤ 2 ^ 63
  pub published : slice_index s.words 2 ≡ length log
  pub legal : IsLegal opening log
  pub since : Since seats start log
  pub home_is : home < 2
  pub free : home ≡ 1 → (x : T) × (get_elem? s.homes 0 ≡ some (some (Some x))) × (opening_of x ≡ opening) × (journal x ≡ log)
  pub held : home ≡ 0 → HasTurn s.views (holder (slice_index s.words 1)) × (slice_index s.words 1 < slice_index s.words 0) × ((n : ℕ) × (n < seats) × (owner n ≡ holder (slice_index s.words 1)))
  pub each_seat : (j : ℕ) (v : SeatView) → get_elem? s.views j ≡ some v → v.live ≡ true → Knows opening seats log (slice_index s.words 0) (slice_index s.words 1) home owner holder j v

-- a seat that has seen log, owns these numbers, knows this length and has so many turns left
abbrev pub new_view : Opening → List Entry → List ℕ → ℕ → ℕ → SeatView
new_view o log ns known turns = record { live = true; past = record { opening = o; seen = log; told = []; numbers = ns; mine = calls_of log ns; known = known }; lost = 0; reads = 0; turns = turns; standing = Idle }

-- the one seat of a new lock, before the numbers are dealt: each of them has 2^57 turns
abbrev pub first_view : Opening → List Entry → ℕ → SeatView
first_view o log seats = new_view o log (numbers 0 seats) 0 (seats * 2 ^ 57)

-- what a seat leaves that was joined into another
abbrev pub spent_view : SeatView
spent_view = record (new_view no_opening [] [] 0 0) { live = false }

-- what a seat is between two calls
pub record IsIdle (v : SeatView) : Type 0 where
  pub live : v.live ≡ true
  pub idle : v.standing ≡ Idle

-- the seat is of this table, which has the lock's three words; it is between two calls, and a turn is left to it
pub record MayCall (table seat : TableId) (v : SeatView) : Type 0 where
  pub same : seat ≡ table
  pub words : table.words ≡ 3
  pub idle : IsIdle v
  pub left : 0 < v.turns
