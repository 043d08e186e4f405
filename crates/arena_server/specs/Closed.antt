-- What a server leaves when it is closed.
use Rattle.std.specs.Prelude.{◌≡◌, ℕ, suc, ◌≤◌, ◌==◌, true, false, if◌then◌else◌, List, [], ◌∷◌, ◌++◌, map, length, None}
use mathlib.Core.List.{IsPrefix}
use mathlib.Core.Option.{some}
use lib.ListN.{get_elem?}
use Rattle.heap_model.specs.declared.call.Entry.{Entry}
use Rattle.arena_lock.specs.declared.opening.Opening.{Opening}
use Rattle.arena_core.specs.Arena.{ArenaState}
use Rattle.arena_journal.specs.Journals.{IsBehind}
use Rattle.shared_pool.specs.Passes.{part_at, seen_at, mine_at}
use Rattle.shared_pool.specs.Closed.{is_in}
use Rattle.arena_server.specs.declared.request.Request.{Request}
use Rattle.arena_server.specs.Requests.{of}
use Rattle.arena_server.specs.Senders.{SenderState, nowhere, sent_at, numbers}
use Rattle.arena_server.specs.Owners.{OwnerState, asked, made, held_list}

-- each of these senders sent to an arena just its requests among these, in order
abbrev pub AllSentThere : ℕ → List SenderState → List Request → Type 0
AllSentThere a [] all = Unit {0}
AllSentThere a (s ∷ ss) all = (of s.number all ≡ sent_at s a) × AllSentThere a ss all

-- each request is of a sender with one of these numbers
abbrev pub AllBy : List ℕ → List Request → Type 0
AllBy ns [] = Unit {0}
AllBy ns (r ∷ rs) = (is_in r.sender ns ≡ true) × AllBy ns rs

-- These requests are an interleaving of what the senders sent to an arena: those of each sender are what it sent there, in
-- order, and there are no others.
pub record IsInterleaving (a : ℕ) (senders : List SenderState) (all : List Request) : Type 0 where
  pub each : AllSentThere a senders all
  pub no_others : AllBy (numbers senders) all

-- an arena at the end: its journal, the requests that are left, and its state
pub record Desk : Type 0 where
  pub journal : List Entry
  pub left : List Request
  pub arena : ArenaState

-- each entry bears this number
abbrev pub AllBear : ℕ → List Entry → Type 0
AllBear a [] = Unit {0}
AllBear a (e ∷ es) = (e.seat ≡ a) × AllBear a es

-- Arena a at the end. What its owner served or skipped, and then what is left, is an interleaving of what the senders sent
-- there. What is left begins with the request that the owner held. The calls of the journal are those of the first requests of
-- the owner's list, and of all of them where it has not skipped. Each entry bears the arena's number. Of the owner's pass the
-- journal begins with what it had seen, has just its own calls, and is as long as it knew. It leads from the opening to the
-- arena as it is.
pub record IsDesk (a : ℕ) (senders : List SenderState) (owner : OwnerState) (opening : Opening) (desk : Desk) : Type 0 where
  pub requests : IsInterleaving a senders (owner.list ++ desk.left)
  pub held : IsPrefix (held_list owner.held) desk.left
  pub served : IsPrefix (made desk.journal) (asked owner.list)
  pub all_served : owner.skipped ≡ false → made desk.journal ≡ asked owner.list
  pub bears : AllBear a desk.journal
  pub seen : IsPrefix (seen_at owner.pass a) desk.journal
  pub own : desk.journal ≡ mine_at owner.pass a
  pub known : (part_at owner.pass a).known ≤ length desk.journal
  pub leads : IsBehind opening desk.journal desk.arena

-- owners, by their numbers

abbrev pub owner_numbers : List OwnerState → List ℕ
owner_numbers os = map (λ (o : OwnerState). o.pass.number) os

-- what stands for an owner that the server doesn't have
abbrev pub no_owner : OwnerState
no_owner = record { pass = record { number = 0; parts = [] }; queue = nowhere; senders = 0; list = []; held = None; skipped = false }

-- the owner of an arena, which has the arena's number
abbrev pub owner_at : List OwnerState → ℕ → OwnerState
owner_at [] a = no_owner
owner_at (o ∷ os) a = if o.pass.number == a then o else owner_at os a

-- the arenas from a on, each with its owner among these
abbrev pub AllDesks : ℕ → List SenderState → List OwnerState → List Opening → List Desk → Type 0
AllDesks a senders owners [] [] = Unit {0}
AllDesks a senders owners (p ∷ ps) (d ∷ ds) = IsDesk a senders (owner_at owners a) p d × AllDesks (suc a) senders owners ps ds
AllDesks a senders owners ps ds = ⊥

-- The law of order: what the owner of an arena served or skipped of one sender is the first that this sender sent there, in the
-- order in which it sent it.
abbrev pub LawOfOrder : Type 0
LawOfOrder =
    (a k : ℕ) (senders : List SenderState) (s : SenderState) (owner : OwnerState) (opening : Opening) (desk : Desk) →
    get_elem? senders k ≡ some s → IsDesk a senders owner opening desk → IsPrefix (of s.number owner.list) (sent_at s a)
