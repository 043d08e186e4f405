-- What contracts say of a lock and of a seat, and what each call makes of them.
use Rattle.std.specs.Prelude.{◌≡◌, ℕ, zero, suc, ◌+◌, ◌-◌, ◌^◌, ◌<◌, ◌≤◌, max, true, List, [], ◌∷◌, ◌++◌, length}
use mathlib.Core.List.{IsPrefix}
use Rattle.atomic_table.specs.Seated.{TableId}
use Rattle.atomic_table.specs.declared.badge.Badge.{Badge}
use Rattle.heap_model.specs.declared.call.Entry.{Entry}
use Rattle.arena_lock.specs.declared.opening.Opening.{Opening}
use Rattle.arena_lock.specs.declared.view.SeatView.{SeatView}
use Rattle.arena_lock.specs.Journal.{Grows, Each, owns, calls_of, longer}
use Rattle.arena_lock.specs.Legality.{IsLegal}
use Rattle.arena_lock.specs.Tickets.{IsIdle, spent_view}

-- a lock: which it is, the opening state and the journal that its value had when it was put behind it, and how many seats
-- it was made with
pub record Lock : Type 0 where
  pub id : TableId
  pub opening : Opening
  pub start : List Entry
  pub seats : ℕ

-- a seat
pub record Known : Type 0 where
  -- the lock that it is of, and the opening state of the value behind that
  pub lock : TableId
  pub opening : Opening
  -- what its holder has seen: a beginning of the journal
  pub seen : List Entry
  -- the numbers that it owns, and for each of them the entries that bear it
  pub numbers : List ℕ
  pub mine : List (List Entry)
  -- how many of its exchanges were lost, and how many times it loaded the published length
  pub lost : ℕ
  pub reads : ℕ
  -- the greatest length that it loaded, 0 at first
  pub known : ℕ
  -- how many turns are left to it
  pub turns : ℕ

-- the seat behind its token

-- the view of a token, while no call has it
abbrev pub view_or : List SeatView → SeatView
view_or [] = spent_view
view_or (v ∷ vs) = v

-- what is said of a seat with this view at the lock z
abbrev pub known_in : TableId → SeatView → Known
known_in z v = record { lock = z; opening = v.past.opening; seen = v.past.seen; numbers = v.past.numbers; mine = v.past.mine; lost = v.lost; reads = v.reads; known = v.past.known; turns = v.turns }

abbrev pub known_of : Badge SeatView → Known
known_of b = known_in b.table_id (view_or b.views)

-- what is true of each seat between two calls
pub record IsSeat (b : Badge SeatView) : Type 0 where
  pub one : b.views ≡ view_or b.views ∷ []
  pub idle : IsIdle (view_or b.views)
  pub mine : (view_or b.views).past.mine ≡ calls_of (view_or b.views).past.seen (view_or b.views).past.numbers
  pub legal : IsLegal (view_or b.views).past.opening (view_or b.views).past.seen

-- new seats

-- a seat that has seen log and owns these numbers, with what it knows of the length and the turns that are left
abbrev pub seat_at : TableId → Opening → List Entry → List ℕ → ℕ → ℕ → Known
seat_at z o log ns known turns = record { lock = z; opening = o; seen = log; numbers = ns; mine = calls_of log ns; lost = 0; reads = 0; known = known; turns = turns }

-- n seats at the lock z, in order: they own the numbers from k on, one each, and have 2^57 turns each
abbrev pub new_seats : TableId → Opening → List Entry → ℕ → ℕ → List Known
new_seats z o log k zero = []
new_seats z o log k (suc n) = seat_at z o log (k ∷ []) 0 (2 ^ 57) ∷ new_seats z o log (suc k) n

-- a seat that is split off has seen as much and knows the same length, and has no number and no turn
abbrev pub split_off : Known → Known
split_off v = seat_at v.lock v.opening v.seen [] v.known 0

-- a turn

-- what a turn of the seat may begin on: a legal journal that begins with all that it has seen, has of its numbers just its
-- own entries, and is not shorter than it knows
pub record MayBegin (v : Known) (log : List Entry) : Type 0 where
  pub seen : IsPrefix v.seen log
  pub mine : calls_of log v.numbers ≡ v.mine
  pub known : v.known ≤ length log
  pub legal : IsLegal v.opening log

-- the seat after a turn that left the journal log: it has seen all of it, and has a turn less
abbrev pub after_turn : Known → List Entry → Known
after_turn v log = record v { seen = log; mine = calls_of log v.numbers; turns = v.turns - 1 }

-- a turn for a job with the number n and this relation, by which the seat went from v to w: from the journal `before` the job
-- led to what the seat has seen now
pub record Turned {Out : Type 0} (n : ℕ) (relation : List Entry → List Entry → Out → Type 0) (v w : Known) (out : Out) : Type 0 where
  pub before : List Entry
  pub begins : MayBegin v before
  pub grows : Grows n before w.seen
  pub relates : relation before w.seen out
  pub legal : IsLegal v.opening w.seen
  pub seat : w ≡ after_turn v w.seen

-- the seat after an exchange that was lost
abbrev pub after_loss : Known → Known
after_loss v = record v { lost = v.lost + 1 }

-- the seat after a load that found the length n
abbrev pub after_read : Known → ℕ → Known
after_read v n = record v { reads = v.reads + 1; known = n }

-- the seat v after the seat w was joined into it: the longer list, the numbers of both with their entries, the greater
-- length and the turns of both
abbrev pub after_join : Known → Known → Known
after_join v w = record v { seen = longer v.seen w.seen; numbers = v.numbers ++ w.numbers; mine = v.mine ++ w.mine; known = max v.known w.known; turns = v.turns + w.turns }

-- the end of a lock

-- all these seats are of the lock z
abbrev pub AllAt : TableId → List Known → Type 0
AllAt z = Each (λ (p : Known). p.lock ≡ z)

abbrev pub all_numbers : List Known → List ℕ
all_numbers [] = []
all_numbers (p ∷ ps) = p.numbers ++ all_numbers ps

-- each number below n is owned by one of these seats
abbrev pub Covers : ℕ → List Known → Type 0
Covers n ps = (k : ℕ) → k < n → owns k (all_numbers ps) ≡ true

-- a seat at the end, where the journal is log: what it has seen begins it, its numbers have just its entries there, and it
-- knows no greater length
pub record Fits (log : List Entry) (p : Known) : Type 0 where
  pub seen : IsPrefix p.seen log
  pub mine : calls_of log p.numbers ≡ p.mine
  pub known : p.known ≤ length log

abbrev pub AllFit : List Entry → List Known → Type 0
AllFit log = Each (Fits log)

-- seats that were joined into one

-- the numbers of p stand in a row among those of v, which has seen just the entries of p that bear them
abbrev pub HasNumbers : Known → Known → Type 0
HasNumbers v p = (a : List ℕ) × (b : List ℕ) × ((a ++ p.numbers) ++ b ≡ v.numbers) × (calls_of v.seen p.numbers ≡ p.mine)

-- the seat v knows all that these seats did
abbrev pub KnowsAll : Known → List Known → Type 0
KnowsAll v = Each (λ (p : Known). IsPrefix p.seen v.seen × (p.known ≤ v.known) × HasNumbers v p)
