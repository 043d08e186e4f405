-- Placement: which block is given for a small request, of those that the machine allows. Each seat has for each class a
-- stack of blocks that are reserved for it: their addresses, the top one first. Seats are numbered below 64; the stacks of
-- all others stay empty.
use Rattle.std.specs.Prelude.{◌≡◌, ◌⊎◌, ◌==◌, ◌&&◌, not, ℕ, ◌+◌, ◌-◌, ◌<◌, ◌≤◌, Bool, false, true, List, [], ◌∷◌, length, map, Option, Some, None, if◌then◌else◌}
use Rattle.std.specs.List.{filter}
use Rattle.size_classes.specs.Classes.{class_capacity, IsClassOf}
use Rattle.heap_model.specs.declared.call.Call.{Call}
use Rattle.heap_model.specs.declared.call.Call.TheVariants.{Malloc, Free, Write, Read, Move}
use Rattle.heap_model.specs.declared.call.Reply.{Reply}
use Rattle.heap_model.specs.declared.call.Reply.TheVariants.{Placed, Freed}
use Rattle.heap_model.specs.Below.{any_below}
use Rattle.heap_model.specs.Machine.{Bounds, Range, Machine, with_key, slab_block, IsBlockOf, IsUnused, IsFreeGranule}
use Rattle.heap_model.specs.Runs.{IsBestFit}
use Rattle.heap_model.specs.Choice.{BlockView, block_view, slab_view, IsUnusedBlock, IsBestSlab, HasNoFitSlab}
use Rattle.heap_model.specs.Slabs.{is_within, view_of}
use Rattle.heap_model.specs.Step.{First, IsStep}

-- stacks

-- the addresses of each seat and class, the top one first
abbrev pub Stacks : Type 0
Stacks = ℕ → ℕ → List ℕ

abbrev pub no_stacks : Stacks
no_stacks = λ seat class. []

-- the state of the machine, and the stacks beside it
pub record PlacedState : Type 0 where
  pub machine : Machine
  pub stacks : Stacks

-- a state beside which no stack has a block
abbrev pub bare : Machine → PlacedState
bare m = record { machine = m; stacks = no_stacks }

-- the stack of a seat and class is this one now
abbrev pub with_stack : Stacks → ℕ → ℕ → List ℕ → Stacks
with_stack stacks seat class stack other c = if (other == seat) && (c == class) then stack else stacks other c

-- the addresses that do not pass are lost
abbrev pub keeping : (ℕ → Bool) → Stacks → Stacks
keeping stays stacks seat class = filter stays (stacks seat class)

-- the slab at s loses its addresses
abbrev pub without_slab : Stacks → ℕ → Stacks
without_slab stacks s = keeping (λ at. not (is_within s at)) stacks

-- an address stands in a list
abbrev pub Has : List ℕ → ℕ → Type 0
Has [] at = ⊥
Has (top ∷ rest) at = (at ≡ top) ⊎ Has rest at

-- the list has no address twice
abbrev pub AllDiffer : List ℕ → Type 0
AllDiffer [] = Unit {0}
AllDiffer (top ∷ rest) = ¬ (Has rest top) × AllDiffer rest

-- each address is below those behind it
abbrev pub AreRising : List ℕ → Type 0
AreRising [] = Unit {0}
AreRising (at ∷ rest) = ((other : ℕ) → Has rest other → at < other) × AreRising rest

-- it stands in no stack
pub record IsInNoStack (stacks : Stacks) (at : ℕ) : Type 0 where
  pub none : (seat class : ℕ) → ¬ (Has (stacks seat class) at)

-- none of the addresses stands in one
pub record AreLoose (stacks : Stacks) (addresses : List ℕ) : Type 0 where
  pub each : (at : ℕ) → Has addresses at → IsInNoStack stacks at

-- only seats below 64 and classes below 36 have stacks, of at most eight addresses each, and no address stands in two places
pub record AreDistinct (stacks : Stacks) : Type 0 where
  pub seated : (seat class : ℕ) → 64 ≤ seat → stacks seat class ≡ []
  pub classed : (seat class : ℕ) → 36 ≤ class → stacks seat class ≡ []
  pub short : (seat class : ℕ) → length (stacks seat class) ≤ 8
  pub differ : (seat class : ℕ) → AllDiffer (stacks seat class)
  pub apart : (seat class other c at : ℕ) → Has (stacks seat class) at → Has (stacks other c) at → (seat ≡ other) × (class ≡ c)

-- malloc

-- block `number` of class c in the slab at s is available: it is unused and in no stack
pub record IsAvailable (v : BlockView) (stacks : Stacks) (s c number : ℕ) : Type 0 where
  pub block : IsUnusedBlock v s c number
  pub loose : IsInNoStack stacks (slab_block s c number).at

-- some slab of class c has an available block
pub record HasAvailable (v : BlockView) (stacks : Stacks) (c : ℕ) : Type 0 where
  pub start : ℕ
  pub slab : v.slab start ≡ Some c
  pub number : ℕ
  pub available : IsAvailable v stacks start c number

-- the number is the first, from one on, that passes
pub record IsNext (Passes : ℕ → Type 0) (low number : ℕ) : Type 0 where
  pub from : low ≤ number
  pub passes : Passes number
  pub first : (lower : ℕ) → low ≤ lower → lower < number → ¬ (Passes lower)

-- these are the lowest numbers from one on that pass, rising: so many of them, or all where there are fewer
abbrev pub AreLowest : (ℕ → Type 0) → ℕ → ℕ → List ℕ → Type 0
AreLowest Passes low most [] = (most ≡ 0) ⊎ ((number : ℕ) → low ≤ number → ¬ (Passes number))
AreLowest Passes low most (number ∷ numbers) = (0 < most) × IsNext Passes low number × AreLowest Passes (number + 1) (most - 1) numbers

-- the addresses of blocks of a slab
abbrev pub addresses : ℕ → ℕ → List ℕ → List ℕ
addresses s c numbers = map (λ number. (slab_block s c number).at) numbers

-- the lowest slab of the class that has an available block gives up to eight of its lowest ones to the stack of the seat, the
-- lowest on top, and the stack gives its top
pub record IsRefill (v : BlockView) (stacks : Stacks) (seat class at : ℕ) (after : Stacks) : Type 0 where
  pub start : ℕ
  pub slab : v.slab start ≡ Some class
  pub lowest : (other number : ℕ) → other < start → v.slab other ≡ Some class → ¬ (IsAvailable v stacks other class number)
  pub number : ℕ
  pub rest : List ℕ
  pub taken : AreLowest (IsAvailable v stacks start class) 0 8 (number ∷ rest)
  pub is : at ≡ (slab_block start class number).at
  pub after_is : after ≡ with_stack stacks seat class (addresses start class rest)

-- a stack has a top
pub record HasTop (stacks : Stacks) (seat class : ℕ) : Type 0 where
  pub top : ℕ
  pub rest : List ℕ
  pub is : stacks seat class ≡ top ∷ rest

-- the lowest-numbered seat whose stack of the class has a top
pub record IsFirstSeat (stacks : Stacks) (class seat : ℕ) : Type 0 where
  pub top : HasTop stacks seat class
  pub first : (other : ℕ) → other < seat → ¬ (HasTop stacks other class)

-- some seat's stack of the class has a top
pub record HasStacked (stacks : Stacks) (class : ℕ) : Type 0 where
  pub seat : ℕ
  pub first : IsFirstSeat stacks class seat

-- the stack gives its top
abbrev pub IsPop : {stacks : Stacks} {seat class : ℕ} → HasTop stacks seat class → ℕ → Stacks → Type 0
IsPop {stacks} {seat} {class} top at after = (at ≡ top.top) × (after ≡ with_stack stacks seat class top.rest)

-- the state in which a slab of this class begins at s
abbrev pub with_class : Machine → ℕ → ℕ → Machine
with_class m s c = record { block = m.block; slab = with_key m.slab s (Some c); value = m.value }

-- the best slab that is fit for the class loses its addresses and takes the class, and then a refill follows
pub record IsMorphRefill (b : Bounds) (was : PlacedState) (seat class at : ℕ) (after : Stacks) : Type 0 where
  pub start : ℕ
  pub best : IsBestSlab (slab_view (view_of b was.machine)) class start
  pub refill : IsRefill (block_view (view_of b (with_class was.machine start class))) (without_slab was.stacks start) seat class at after

-- where none is fit, a new slab is made at the best fit of four granules, and then a refill follows
pub record IsNewRefill (b : Bounds) (was : PlacedState) (seat class at : ℕ) (after : Stacks) : Type 0 where
  pub no_fit : HasNoFitSlab (slab_view (view_of b was.machine)) class
  pub start : ℕ
  pub fit : IsBestFit (IsFreeGranule b was.machine) 4 start
  pub refill : IsRefill (block_view (view_of b (with_class was.machine start class))) was.stacks seat class at after

-- the address that a seat is given for a request of the class, and the stacks after it: the seat's own stack gives its top;
-- else there is a refill; else the lowest-numbered seat's stack gives its top; else a slab takes the class, or is made
abbrev pub IsWay : Bounds → PlacedState → ℕ → ℕ → ℕ → Stacks → Type 0
IsWay b was seat class at after =
    First (HasTop was.stacks seat class) (λ top. IsPop top at after)
    (First (HasAvailable (block_view (view_of b was.machine)) was.stacks class) (λ _. IsRefill (block_view (view_of b was.machine)) was.stacks seat class at after)
    (First (HasStacked was.stacks class) (λ stacked. IsPop stacked.first.top at after)
    (IsMorphRefill b was seat class at after ⊎ IsNewRefill b was seat class at after)))

-- a malloc gave a small block
pub record GaveSmall (size : ℕ) (reply : Reply) : Type 0 where
  pub class : ℕ
  pub least : IsClassOf size class
  pub at : ℕ
  pub given : ℕ
  pub is : reply ≡ Placed at given

-- free

-- it was a slab, and is none now
abbrev pub has_left : Option ℕ → Option ℕ → Bool
has_left (Some class) None = true
has_left (Some class) (Some other) = false
has_left None now = false

-- the slabs that left lose their addresses
abbrev pub without_left : Bounds → Machine → Machine → Stacks → Stacks
without_left b m next stacks = keeping (λ at. not (any_below (λ s. has_left (m.slab s) (next.slab s) && is_within s at) b.granules)) stacks

-- a freed block may be reserved for the seat: it is of the class of its slab, which has not left, and the stack has room
pub record IsKeepable (m : Machine) (stacks : Stacks) (seat : ℕ) (range : Range) : Type 0 where
  pub start : ℕ
  pub class : ℕ
  pub slab : m.slab start ≡ Some class
  pub block : IsBlockOf start class range
  pub room : length (stacks seat class) < 8

-- then it goes on top of the seat's stack; else it goes on none
abbrev pub IsReturned : Machine → Stacks → ℕ → Range → Stacks → Type 0
IsReturned m stacks seat range after =
    First (IsKeepable m stacks seat range) (λ keep. after ≡ with_stack stacks seat keep.class (range.at ∷ stacks seat keep.class))
    (after ≡ stacks)

-- a free took a block
pub record TookBlock (reply : Reply) : Type 0 where
  pub range : Range
  pub is : reply ≡ Freed range.at range.size

-- steps

-- what a call of a seat makes of the stacks
abbrev pub IsStacked : Bounds → ℕ → PlacedState → Call → Reply → PlacedState → Type 0
IsStacked b seat was (Malloc root size) reply next =
    First (GaveSmall size reply) (λ gave. IsWay b was seat gave.class gave.at next.stacks) (next.stacks ≡ was.stacks)
IsStacked b seat was (Free root) reply next =
    First (TookBlock reply) (λ took. IsReturned next.machine (without_left b was.machine next.machine was.stacks) seat took.range next.stacks) (next.stacks ≡ was.stacks)
IsStacked b seat was (Write root index word) reply next = next.stacks ≡ was.stacks
IsStacked b seat was (Read root index) reply next = next.stacks ≡ was.stacks
IsStacked b seat was (Move from to) reply next = next.stacks ≡ was.stacks

-- a step of the machine for a seat, in which a block is given where the placement says
pub record IsPlacedStep (b : Bounds) (seat : ℕ) (was : PlacedState) (call : Call) (reply : Reply) (next : PlacedState) : Type 0 where
  pub step : IsStep b was.machine call reply next.machine
  pub stacked : IsStacked b seat was call reply next

-- sound stacks

-- a reserved block: of its class, in a slab of that class, and unused
pub record IsReserved (m : Machine) (class at : ℕ) : Type 0 where
  pub start : ℕ
  pub slab : m.slab start ≡ Some class
  pub number : ℕ
  pub within : number < class_capacity class
  pub unused : IsUnused m (slab_block start class number)
  pub is : at ≡ (slab_block start class number).at

-- the stacks are sound beside the state: they are distinct, and each address is that of a reserved block
pub record AreSound (s : PlacedState) : Type 0 where
  pub distinct : AreDistinct s.stacks
  pub reserved : (seat class at : ℕ) → Has (s.stacks seat class) at → IsReserved s.machine class at
