-- What a pool is, what a pass knows of each arena, and what each call makes of it.
use Rattle.std.specs.Prelude.{◌≡◌, ℕ, zero, suc, ◌-◌, ◌^◌, ◌<◌, ◌≤◌, List, [], ◌∷◌, ◌++◌, map, length, get_or, slice_set, Result, IfOk, IfErr}
use mathlib.Core.List.{IsPrefix}
use Rattle.pmem_lines.specs.declared.pmem.OutOfMemory.{OutOfMemory}
use Rattle.heap_model.specs.declared.call.Entry.{Entry}
use Rattle.heap_model.specs.declared.call.Call.{Call}
use Rattle.arena_lock.specs.Journal.{calls_by}
use Rattle.arena_lock.specs.Legality.{IsLegal}
use Rattle.arena_lock.specs.Known.{Lock, Known, known_in, seat_at, after_loss}
use Rattle.arena_lock.specs.Tickets.{spent_view}
use Rattle.shared_pool.specs.declared.job.Receipt.{Receipt}
use Rattle.shared_pool.specs.declared.pool.TryRefusal.{TryRefusal}
use Rattle.shared_pool.specs.declared.pool.TryRefusal.TheVariants.{Memory, Busy}

-- a pass: its number, and for each arena what is known of its seat there
pub record PassState : Type 0 where
  pub number : ℕ
  pub parts : List Known

-- a pool: how many passes it was started with, and its locks, by arena
pub record PoolState : Type 0 where
  pub seats : ℕ
  pub locks : List Lock

-- the pass has a seat at each lock of the pool
abbrev pub IsPassOf : PoolState → PassState → Type 0
IsPassOf pool pass = map (λ (l : Lock). l.id) pool.locks ≡ map (λ (k : Known). k.lock) pass.parts

-- the arenas of a pass

-- what stands for the seat at an arena that the pool doesn't have
abbrev pub nobody : Known
nobody = known_in (record { words = 0; slots = 0; views_name = 0; atom = 0; block = 0; offset = 0; slot_names = [] }) spent_view

-- the seat at an arena
abbrev pub part_at : PassState → ℕ → Known
part_at p a = get_or p.parts a nobody

-- the pass with this seat at an arena
abbrev pub with_part : PassState → ℕ → Known → PassState
with_part p a w = record { number = p.number; parts = slice_set p.parts a w }

-- what the pass has seen of an arena's journal
abbrev pub seen_at : PassState → ℕ → List Entry
seen_at p a = (part_at p a).seen

abbrev pub first_calls : List (List Entry) → List Entry
first_calls [] = []
first_calls (es ∷ ess) = es

-- the entries of the pass's own calls of an arena
abbrev pub mine_at : PassState → ℕ → List Entry
mine_at p a = first_calls (part_at p a).mine

-- new passes

-- a pass that has seen empty journals, with 2^57 turns at each lock
abbrev pub fresh_pass : List Lock → ℕ → PassState
fresh_pass locks n = record { number = n; parts = map (λ (l : Lock). seat_at l.id l.opening [] (n ∷ []) 0 (2 ^ 57)) locks }

-- so many of them, with the numbers from n on
abbrev pub fresh_passes : List Lock → ℕ → ℕ → List PassState
fresh_passes locks n zero = []
fresh_passes locks n (suc count) = fresh_pass locks n ∷ fresh_passes locks (suc n) count

-- calls

-- A pass may ask for a call of an arena: it has a seat at each lock of the pool, and a turn left at the arena's.
pub record MayAsk (pool : PoolState) (pass : PassState) (arena : ℕ) : Type 0 where
  pub of_pool : IsPassOf pool pass
  pub there : arena < length pool.locks
  pub left : 0 < (part_at pass arena).turns

-- A call of an arena was made. It stands at the receipt's place of a legal journal, which begins with all that the pass had
-- seen, is as long as it knew, and had of its number just its own calls. The pass has seen up to the call's entry, which is
-- one more of its own, and has spent a turn there; nothing else of it changed.
pub record Called (arena : ℕ) (call : Call) (p q : PassState) (r : Receipt) : Type 0 where
  pub before : List Entry
  pub begins : IsPrefix (seen_at p arena) before
  pub own : calls_by p.number before ≡ mine_at p arena
  pub place : r.place ≡ length before
  pub known : (part_at p arena).known ≤ r.place
  pub bears : (r.entry.seat ≡ p.number) × (r.entry.call ≡ call)
  pub legal : IsLegal (part_at p arena).opening (before ++ r.entry ∷ [])
  pub pass : q ≡ with_part p arena (record (part_at p arena) { seen = before ++ r.entry ∷ []; mine = (mine_at p arena ++ r.entry ∷ []) ∷ []; turns = (part_at p arena).turns - 1 })

-- For want of memory no call was made, and no entry. The pass may have seen more of the legal journal, and has spent a turn
-- there; nothing else of it changed. Nor has the arena's device an event: at `close` the arena is what its journal leads to, and
-- the pass's own entries there are those that it was answered.
pub record Refused (arena : ℕ) (p q : PassState) : Type 0 where
  pub seen : List Entry
  pub begins : IsPrefix (seen_at p arena) seen
  pub known : (part_at p arena).known ≤ length seen
  pub legal : IsLegal (part_at p arena).opening seen
  pub pass : q ≡ with_part p arena (record (part_at p arena) { seen = seen; turns = (part_at p arena).turns - 1 })

-- A try lost its exchange there, and nothing else of the pass changed. It had no turn, so that it has no entry and the arena's
-- device no event.
abbrev pub Missed : ℕ → PassState → PassState → Type 0
Missed arena p q = q ≡ with_part p arena (after_loss (part_at p arena))

-- why a try made no call
abbrev pub Declined : ℕ → PassState → PassState → TryRefusal → Type 0
Declined arena p q (Memory e) = Refused arena p q
Declined arena p q Busy = Missed arena p q

-- A pass asked for a call of an arena, and has its number and its seats still: the call was made, or it was not, by its cause.
pub record HasAsked {E : Type 0} (pool : PoolState) (arena : ℕ) (call : Call) (p q : PassState) (result : Result Receipt E) (Cause : E → Type 0) : Type 0 where
  pub pass : IsPassOf pool q
  pub number : q.number ≡ p.number
  pub called : IfOk result (λ r. Called arena call p q r)
  pub refused : IfErr result Cause

-- in its turn, where want of memory is the one cause
abbrev pub HasCalled : PoolState → ℕ → Call → PassState → PassState → Result Receipt OutOfMemory → Type 0
HasCalled pool arena call p q result = HasAsked pool arena call p q result (λ _. Refused arena p q)

-- by a try, which may be busy too
abbrev pub HasTried : PoolState → ℕ → Call → PassState → PassState → Result Receipt TryRefusal → Type 0
HasTried pool arena call p q result = HasAsked pool arena call p q result (λ e. Declined arena p q e)
