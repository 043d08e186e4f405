-- What owners serve of a trace's calls, and what they note.
use Rattle.std.specs.Prelude.{◌≡◌, ℕ, ◌^◌, ◌≤◌, false, List, [], ◌∷◌, map, length, vec_len}
use Rattle.std.specs.Vec.{vec_capacity}
use Rattle.trace_text.specs.declared.call.TraceCall.{TraceCall}
use Rattle.trace_runs.specs.Calls.{calls_of}
use Rattle.shared_pool.specs.Passes.{part_at}
use Rattle.arena_server.specs.declared.request.Request.{Request}
use Rattle.arena_server.specs.Owners.{OwnerState}
use Rattle.arena_server.specs.Servers.{ServerState, IsOwnerOf}
use Rattle.serve_runs.specs.declared.clerk.Clerk.{Clerk}

-- who sent these requests
abbrev pub senders_of : List Request → List ℕ
senders_of rs = map (λ (r : Request). r.sender) rs

-- while the owner has skipped none, the clerk has noted who sent each request of its list
abbrev pub HasNoted : Clerk → Type 0
HasNoted c = c.owner.skipped ≡ false → c.senders.items ≡ senders_of c.owner.list

-- how many turns the owner has left in its arena
abbrev pub turns_left : OwnerState → ℕ
turns_left o = (part_at o.pass o.pass.number).turns

-- an owner of the server that has served nothing, with 2^57 turns in its arena
pub record IsNewOwner (server : ServerState) (o : OwnerState) : Type 0 where
  pub of : IsOwnerOf server o
  pub none : o.list ≡ []
  pub skipped : o.skipped ≡ false
  pub turns : 2 ^ 57 ≤ turns_left o

-- the clerk has served nothing, and can note as many requests as these calls have of its arena
pub record IsReady (server : ServerState) (calls : List TraceCall) (c : Clerk) : Type 0 where
  pub owner : IsNewOwner server c.owner
  pub notes : vec_len c.senders ≡ 0
  pub room : length (calls_of c.owner.pass.number calls) ≤ vec_capacity c.senders

-- the owner of each of these clerks is of the server
abbrev pub AllClerksOf : ServerState → List Clerk → Type 0
AllClerksOf server [] = Unit {0}
AllClerksOf server (c ∷ cs) = IsOwnerOf server c.owner × AllClerksOf server cs

-- it served as many requests as these calls have of its arena, skipped none, and noted who sent them
pub record HasServedAll (calls : List TraceCall) (c : Clerk) : Type 0 where
  pub skipped : c.owner.skipped ≡ false
  pub all : length c.owner.list ≡ length (calls_of c.owner.pass.number calls)
  pub noted : c.senders.items ≡ senders_of c.owner.list
