-- What is said of a server, and what its calls make of senders and owners.
use Rattle.std.specs.Prelude.{◌≡◌, ℕ, ◌<◌, true, List, [], ◌∷◌, ◌++◌, map, length, get_or, Some, None, Result, Ok, Err, IfSome}
use Rattle.pmem_lines.specs.declared.pmem.OutOfMemory.{OutOfMemory}
use Rattle.atomic_table.specs.Seated.{TableId}
use Rattle.crossbeam_queue.specs.declared.array_queue.Slotted.{Slotted}
use Rattle.shared_pool.specs.Passes.{PoolState, IsPassOf, Called, Refused}
use Rattle.arena_server.specs.declared.request.Request.{Request}
use Rattle.arena_server.specs.declared.request.Served.{Served}
use Rattle.arena_server.specs.Senders.{Line, SenderState, nowhere}
use Rattle.arena_server.specs.Owners.{OwnerState}

-- a server: its pool, the queue of each arena, and how many senders it was started with
pub record ServerState : Type 0 where
  pub pool : PoolState
  pub queues : List TableId
  pub senders : ℕ

abbrev pub queue_ids : {S D Q A : Type 0} → List (Slotted S D Q A) → List TableId
queue_ids qs = map (λ q. q.table.shared.table_id) qs

-- each queue has this much room
abbrev pub AllHaveRoom : {S D Q A : Type 0} → ℕ → List (Slotted S D Q A) → Type 0
AllHaveRoom room [] = Unit {0}
AllHaveRoom room (q ∷ qs) = (q.cap ≡ room) × AllHaveRoom room qs

-- the sender has a line through each queue of the server
abbrev pub IsSenderOf : ServerState → SenderState → Type 0
IsSenderOf server sender = server.queues ≡ map (λ (l : Line). l.queue) sender.lines

-- the owner has a pass of the server's pool, and takes from the queue of the arena of its number
pub record IsOwnerOf (server : ServerState) (owner : OwnerState) : Type 0 where
  pub pass : IsPassOf server.pool owner.pass
  pub arena : owner.pass.number < length server.queues
  pub queue : owner.queue ≡ get_or server.queues owner.pass.number nowhere
  pub senders : owner.senders ≡ server.senders

abbrev pub AllOwnersOf : ServerState → List OwnerState → Type 0
AllOwnersOf server [] = Unit {0}
AllOwnersOf server (o ∷ os) = IsOwnerOf server o × AllOwnersOf server os

-- the owner holds a request
abbrev pub after_holding : OwnerState → Request → OwnerState
after_holding p r = record p { held = Some r }

-- A request was served: the one that was held, where there was one. Its call was made in the owner's arena, as the receipt
-- says, and it stands at the end of the owner's list.
pub record HasServedOne (p q : OwnerState) (s : Served) : Type 0 where
  pub held : IfSome p.held (λ r. s.request ≡ r)
  pub called : Called p.pass.number s.request.call p.pass q.pass s.receipt
  pub owner : q ≡ record p { pass = q.pass; list = p.list ++ s.request ∷ []; held = None }

-- For want of memory no call was made. A request is held, the one that was held where there was one; the list stays.
pub record HoldsOne (p q : OwnerState) : Type 0 where
  pub request : Request
  pub held : IfSome p.held (λ r. request ≡ r)
  pub refused : Refused p.pass.number p.pass q.pass
  pub owner : q ≡ record p { pass = q.pass; held = Some request }

abbrev pub HasServed : OwnerState → OwnerState → Result Served OutOfMemory → Type 0
HasServed p q (Ok s) = HasServedOne p q s
HasServed p q (Err e) = HoldsOne p q

-- A request was given out: the one that was held, where there was one. It stands at the end of the list, no call was made, and
-- the owner has skipped.
pub record HasSkipped (p q : OwnerState) (r : Request) : Type 0 where
  pub held : IfSome p.held (λ h. r ≡ h)
  pub owner : q ≡ record p { list = p.list ++ r ∷ []; held = None; skipped = true }
