-- What each step on the lock's words makes of the view of its seat, and what it tells. A seat is its view and the slots that
-- it holds. docs/threads.md has the steps as a table.
use Rattle.std.specs.Prelude.{◌≡◌, ◌≢◌, ℕ, ◌+◌, ◌-◌, ◌^◌, ◌<◌, ◌≤◌, max, true, List, [], ◌∷◌, ◌++◌, length, Option, Some}
use mathlib.Core.List.{IsPrefix}
use Rattle.atomic_table.specs.Table.{Me, Step}
use Rattle.heap_model.specs.declared.call.Entry.{Entry}
use Rattle.arena_lock.specs.declared.opening.Opening.{Opening}
use Rattle.arena_lock.specs.declared.view.Past.{Past}
use Rattle.arena_lock.specs.declared.view.Standing.{Standing}
use Rattle.arena_lock.specs.declared.view.Standing.TheVariants.{Idle, Looked, Waits, InTurn}
use Rattle.arena_lock.specs.declared.view.SeatView.{SeatView}
use Rattle.arena_lock.specs.Journal.{longer, shorter, calls_of, only_first, all_but_first}
use Rattle.arena_lock.specs.Legality.{IsLegal}
use Rattle.arena_lock.specs.Tickets.{new_view}

-- a seat of the table: its view, and the slots that it holds
abbrev pub Place : Type 0 → Type 0
Place T = Me (Option T) SeatView

-- drawing a ticket

-- the ticket t is in hand, and a turn is spent
abbrev pub drawn_view : SeatView → ℕ → SeatView
drawn_view v t = record v { turns = v.turns - 1; standing = Waits t }

-- the number found is the ticket
abbrev pub drew : {T : Type 0} → Step (Option T) → Place T → ℕ → Place T → Type 0
drew st m found m' = (m' ≡ (drawn_view m.0 found, m.1)) × (found < 2 ^ 63)

-- beginning a turn

-- what a turn begins on: a journal that begins with all that was seen, has of the seat's numbers just the seat's entries,
-- is as long as it knows, and is legal
pub record Begins (p : Past) (log : List Entry) : Type 0 where
  pub seen : IsPrefix p.seen log
  pub mine : calls_of log p.numbers ≡ p.mine
  pub known : p.known ≤ length log
  pub legal : IsLegal p.opening log

-- the ticket in hand, 0 where there is none
abbrev pub ticket_of : Standing → ℕ
ticket_of Idle = 0
ticket_of (Looked served) = 0
ticket_of (Waits ticket) = ticket
ticket_of (InTurn ticket base) = ticket

-- the journal that a turn has come to, empty outside a turn
abbrev pub base_of : Standing → List Entry
base_of Idle = []
base_of (Looked served) = []
base_of (Waits ticket) = []
base_of (InTurn ticket base) = base

-- the turn of the ticket t begins on the journal log
abbrev pub begun_view : SeatView → ℕ → List Entry → SeatView
begun_view v t log = record v { standing = InTurn t log }

-- the seat has the turn of the ticket t, and the value in hand, whose journal is the one that the turn has come to
abbrev pub HasValue : {T : Type 0} → (T → Opening) → (T → List Entry) → ℕ → Place T → Type 0
HasValue {T} opening_of journal t m = (x : T) × (m.1 ≡ (0, Some x) ∷ []) × (opening_of x ≡ m.0.past.opening) × (m.0.standing ≡ InTurn t (journal x)) × (m.0.live ≡ true)

-- a look with no ticket: the one that is served is remembered
abbrev pub glanced_view : SeatView → ℕ → SeatView
glanced_view v n = record v { standing = Looked n }

abbrev pub glanced : {T : Type 0} → Step (Option T) → Place T → ℕ → Place T → Type 0
glanced st m found m' = (m' ≡ (glanced_view m.0 found, m.1)) × (found < 2 ^ 63)

-- an exchange that found another number than the one looked at
abbrev pub lost_view : SeatView → SeatView
lost_view v = record v { lost = v.lost + 1; standing = Idle }

module _ {T : Type 0} (opening_of : T → Opening) (journal : T → List Entry) where
  -- the turn of the ticket t begins with the view v, and the value is taken out of its slot
  abbrev pub TakesTurn : ℕ → SeatView → Place T → Place T → Type 0
  TakesTurn t v m m' = (x : T) × (m' ≡ (begun_view v t (journal x), (0, Some x) ∷ m.1)) × (opening_of x ≡ v.past.opening) × Begins v.past (journal x)

  -- a look with a ticket: where it is the one served, the turn begins
  abbrev pub waited : Step (Option T) → Place T → ℕ → Place T → Type 0
  waited st m found m' = (found ≡ ticket_of m.0.standing → TakesTurn found m.0 m m') × (found ≢ ticket_of m.0.standing → m' ≡ m)

  -- an exchange from the number that the seat looked at in this call: where it finds this, the ticket is drawn and its turn
  -- begins; else it is lost
  abbrev pub tried : Step (Option T) → Place T → ℕ → Place T → Type 0
  tried st m found m' = (m.0.standing ≡ Looked st.first) × (found ≡ st.first → TakesTurn st.first (drawn_view m.0 st.first) m m') × (found ≢ st.first → m' ≡ (lost_view m.0, m.1))

-- ending a turn

-- in the turn of the ticket t, the seat has seen the journal log, whose length is published
abbrev pub published_view : SeatView → ℕ → List Entry → SeatView
published_view v t log = record v { past = record v.past { seen = log; mine = calls_of log v.past.numbers }; standing = InTurn t log }

abbrev pub published : {T : Type 0} → (T → Opening) → (T → List Entry) → Step (Option T) → Place T → ℕ → Place T → Type 0
published {T} opening_of journal st m found m' = (x : T) → m.1 ≡ (0, Some x) ∷ [] → m' ≡ (published_view m.0 (ticket_of m.0.standing) (journal x), m.1)

-- the turn is passed on, and the value is back in its slot
abbrev pub passed_view : SeatView → SeatView
passed_view v = record v { standing = Idle }

abbrev pub passed_on : {T : Type 0} → Step (Option T) → Place T → ℕ → Place T → Type 0
passed_on st m found m' = m' ≡ (passed_view m.0, [])

-- reading the published length

abbrev pub counted_view : SeatView → ℕ → SeatView
counted_view v n = record v { past = record v.past { known = n }; reads = v.reads + 1 }

abbrev pub counted : {T : Type 0} → Step (Option T) → Place T → ℕ → Place T → Type 0
counted st m found m' = (m' ≡ (counted_view m.0 found, m.1)) × (m.0.past.known ≤ found) × (length m.0.past.seen ≤ found)

-- splitting and joining seats

-- the view of a seat that is split off: it has seen as much, and has no number and no turn
abbrev pub guest_view : SeatView → SeatView
guest_view v = new_view v.past.opening v.past.seen [] v.past.known 0

-- the seat without its first number and that number's turns, and the seat to which they are dealt
abbrev pub rest_view : SeatView → SeatView
rest_view v = record v { past = record v.past { numbers = all_but_first v.past.numbers; mine = all_but_first v.past.mine }; turns = v.turns - 2 ^ 57 }

abbrev pub dealt_view : SeatView → SeatView
dealt_view v = new_view v.past.opening v.past.seen (only_first v.past.numbers) 0 (2 ^ 57)

-- the longer list, the greater length, the numbers of both
abbrev pub joined_past : Past → Past → Past
joined_past p q = record p { seen = longer p.seen q.seen; told = shorter p.seen q.seen; numbers = p.numbers ++ q.numbers; mine = p.mine ++ q.mine; known = max p.known q.known }

-- the turns of both; of `lost` and `reads` the first seat's stay
abbrev pub joined_view : SeatView → SeatView → SeatView
joined_view v w = record v { past = joined_past v.past w.past; turns = v.turns + w.turns }

-- a load tells what a join left: the entries of its numbers, and that the shorter list begins the longer
abbrev pub settled : {T : Type 0} → Step (Option T) → Place T → ℕ → Place T → Type 0
settled st m found m' = (m' ≡ m) × (m.0.past.mine ≡ calls_of m.0.past.seen m.0.past.numbers) × IsPrefix m.0.past.told m.0.past.seen × IsLegal m.0.past.opening m.0.past.seen
