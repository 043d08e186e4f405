-- What a pool leaves when it is closed.
use Rattle.std.specs.Prelude.{◌≡◌, ℕ, suc, ◌<◌, ◌≤◌, ◌==◌, ◌||◌, Bool, true, false, List, [], ◌∷◌, map, length}
use mathlib.Core.List.{IsPrefix}
use Rattle.atomic_table.specs.Seated.{TableId}
use Rattle.heap_model.specs.declared.call.Entry.{Entry}
use Rattle.arena_core.specs.Arena.{ArenaState}
use Rattle.arena_lock.specs.declared.opening.Opening.{Opening}
use Rattle.arena_lock.specs.Journal.{Each, calls_by}
use Rattle.heap_model.specs.Journal.{AllBelow}
use Rattle.arena_lock.specs.Known.{Known}
use Rattle.arena_journal.specs.Journals.{IsBehind}
use Rattle.shared_pool.specs.Passes.{PassState, part_at, seen_at, mine_at}

-- all passes of a pool

-- each of these passes has a seat at each of these locks
abbrev pub AllFitLocks : List TableId → List PassState → Type 0
AllFitLocks tables = Each (λ (p : PassState). tables ≡ map (λ (k : Known). k.lock) p.parts)

abbrev pub is_in : ℕ → List ℕ → Bool
is_in k [] = false
is_in k (n ∷ ns) = (n == k) || is_in k ns

-- each number below count is among these
abbrev pub HasAll : ℕ → List ℕ → Type 0
HasAll count ns = (k : ℕ) → k < count → is_in k ns ≡ true

-- one arena

-- of each pass the journal begins with what the pass had seen, its entries of the pass's number are the pass's own calls,
-- and it is as long as the pass knew
abbrev pub AllAgree : ℕ → List PassState → List Entry → Type 0
AllAgree a passes journal = Each (λ (p : PassState). IsPrefix (seen_at p a) journal × (calls_by p.number journal ≡ mine_at p a) × ((part_at p a).known ≤ length journal)) passes

-- arena a of a pool with so many passes at the end: its journal leads from the opening to the arena as it is, agrees with each
-- pass, and has no calls but theirs
pub record IsClosed (seats a : ℕ) (passes : List PassState) (opening : Opening) (closed : List Entry × ArenaState) : Type 0 where
  pub held : IsBehind opening closed.0 closed.1
  pub below : AllBelow seats closed.0
  pub agree : AllAgree a passes closed.0

-- the arenas of the pool from number a on
abbrev pub AllClosed : ℕ → ℕ → List PassState → List Opening → List (List Entry × ArenaState) → Type 0
AllClosed seats a passes [] [] = Unit {0}
AllClosed seats a passes (o ∷ os) (c ∷ cs) = IsClosed seats a passes o c × AllClosed seats (suc a) passes os cs
AllClosed seats a passes os cs = ⊥
