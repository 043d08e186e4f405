-- A call was carried out behind its begin: what the arena answers and leaves, by what the arena means.
use Rattle.std.proofs.Common.{◌≡◌, ℕ, List, Result, ap, arith}
use Rattle.arena_core.proofs.Common.{Event, PmemState, words_of, began, IsQuietStep, Call, Reply, Supply, IsExactImage, BlockRefusal, Volatile, ArenaState, IsArena, IsCalled, IsMoveCarried, IsWriteCarried}
use Rattle.arena_core.specs.Answered.{IsOneCall, IsAnswered, IsMoveAnswered, IsWriteAnswered}
use Rattle.arena_core.proofs.MovesCalls.{any_seat}

-- what an arena means
abbrev pub meant : PmemState → Volatile → ArenaState
meant device volatile = record { device = device; line = volatile.line; stacks = volatile.supply.stacks }

-- an arena that begins a call
pub IsArena-began : {device : PmemState} {was : Volatile} → IsArena device was → IsArena (began device) was
IsArena-began {device} {was} arena = grind arith

-- what every call has in common
one_call : {device new : PmemState} {left : Volatile} {events : List Event} {Left : List ℕ → Type 0} → IsExactImage (words_of device) → IsQuietStep (began device) new events Left → IsArena new left → IsOneCall device new events Left
one_call {device} {new} {left} {events} {Left} exact step arena = grind arith

-- a malloc or a free
pub answered_call : {begun new : PmemState} {was left : Volatile} {now : ArenaState} {seat : ℕ} {call : Call} {reply : Reply} (device : PmemState) → meant device was ≡ now → begun ≡ began device → IsExactImage (words_of device) →
    IsCalled begun new was left seat call reply → IsAnswered seat now (meant new left) call reply
answered_call {begun} {new} {was} {left} {now} {seat} {call} {reply} device view is exact called = grind arith

-- a move
pub answered_move : {begun new : PmemState} {was left : Volatile} {now : ArenaState} {from to : ℕ} {reply : Reply} (device : PmemState) → meant device was ≡ now → begun ≡ began device → IsExactImage (words_of device) →
    IsMoveCarried begun new was left from to reply → IsMoveAnswered now (meant new left) from to reply
answered_move {begun} {new} {was} {left} {now} {from} {to} {reply} device view is exact carried =
    let done : IsMoveCarried (began device) new was left from to reply = rw is at carried in
    rw (← view) (record { did = one_call exact done.carried done.arena; step = any_seat (words_of device) (words_of new) from to reply done.step; line = done.line_is; stacks = ap (λ (s : Supply). s.stacks) done.supply; keeps = done.keeps })

-- a write, which leaves what stands beside the words
pub answered_write : {begun new : PmemState} {was : Volatile} {now : ArenaState} {root from : ℕ} {words : List ℕ} {result : Result (Unit {0}) BlockRefusal} (device : PmemState) → meant device was ≡ now → begun ≡ began device → IsArena device was →
    IsWriteCarried begun new root from words result → IsWriteAnswered now (meant new was) root from words result
answered_write {begun} {new} {was} {now} {root} {from} {words} {result} device view is arena carried = grind arith
