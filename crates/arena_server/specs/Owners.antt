-- What is said of an owner: its pass, what it served or skipped, what it holds, and whether it has skipped.
use Rattle.std.specs.Prelude.{◌≡◌, ◌≢◌, ℕ, ◌-◌, Bool, false, List, [], ◌∷◌, ◌++◌, map, length, take, Option, Some, None}
use mathlib.Core.List.{IsPrefix}
use Rattle.atomic_table.specs.Seated.{TableId}
use Rattle.crossbeam_queue.specs.Passes.{view}
use Rattle.heap_model.specs.declared.call.Call.{Call}
use Rattle.heap_model.specs.declared.call.Entry.{Entry}
use Rattle.shared_pool.specs.Passes.{PassState, mine_at}
use Rattle.arena_server.specs.declared.request.Request.{Request}
use Rattle.arena_server.specs.declared.part.Part.{Part}
use Rattle.arena_server.specs.declared.part.Part.TheVariants.{Takes}
use Rattle.arena_server.specs.declared.owner.Till.{Till}

-- an owner
pub record OwnerState : Type 0 where
  pub pass : PassState
  -- the queue that it takes from, and how many senders it has
  pub queue : TableId
  pub senders : ℕ
  -- the requests that it served or skipped
  pub list : List Request
  pub held : Option Request
  pub skipped : Bool

-- what requests ask for, and what entries answer
abbrev pub asked : List Request → List Call
asked rs = map (λ (r : Request). r.call) rs

abbrev pub made : List Entry → List Call
made es = map (λ (e : Entry). e.call) es

-- an owner behind its token

-- the request that is held, as a list
abbrev pub held_list : Option Request → List Request
held_list None = []
held_list (Some r) = r ∷ []

-- what was taken out, without the request that is held
abbrev pub before_held : List Request → Option Request → List Request
before_held taken None = taken
before_held taken (Some r) = take (length taken - 1) taken

abbrev pub taken_of : Part → List Request
taken_of (Takes senders taken ended) = taken
taken_of p = []

abbrev pub senders_of : Part → ℕ
senders_of (Takes senders taken ended) = senders
senders_of p = 0

-- the requests that were served or skipped
abbrev pub till_list : Till → List Request
till_list t = before_held (taken_of (view t.token)) t.held

abbrev pub owner_of : PassState → Till → OwnerState
owner_of p t = record { pass = p; queue = t.token.table_id; senders = senders_of (view t.token); list = till_list t; held = t.held; skipped = t.skipped }

-- The calls of the pass in the arena of its number are those of the first requests of the list, and of all of them where none
-- was skipped. It made no call of another arena.
pub record HasMade (p : PassState) (list : List Request) (skipped : Bool) : Type 0 where
  pub own : IsPrefix (made (mine_at p p.number)) (asked list)
  pub all : skipped ≡ false → made (mine_at p p.number) ≡ asked list
  pub elsewhere : (a : ℕ) → a ≢ p.number → mine_at p a ≡ []

-- what was taken out of the queue is the list, and then what is held
pub record IsTill (t : Till) : Type 0 where
  pub part : view t.token ≡ Takes (senders_of (view t.token)) (taken_of (view t.token)) []
  pub here : t.token.me.1 ≡ []
  pub taken : taken_of (view t.token) ≡ till_list t ++ held_list t.held

-- what is true of each owner
pub record IsOwner (p : PassState) (t : Till) : Type 0 where
  pub arena : t.arena ≡ p.number
  pub till : IsTill t
  pub calls : HasMade p (till_list t) t.skipped
