-- Legal journals: each entry is a step from the state that the entries before it lead to.
use Rattle.std.specs.Prelude.{◌≡◌, ◌<◌, ℕ, List, [], ◌∷◌}
use Rattle.heap_model.specs.declared.call.Call.{Call}
use Rattle.heap_model.specs.declared.call.Call.TheVariants.{Malloc, Free, Write, Read, Move}
use Rattle.heap_model.specs.declared.call.Entry.{Entry}
use Rattle.heap_model.specs.Machine.{Bounds, Machine, IsOverlapFree}
use Rattle.heap_model.specs.Step.{IsStep}
use Rattle.heap_model.specs.Placement.{PlacedState, bare, IsPlacedStep, AreSound}

-- the entries lead from a state to another, by this kind of steps
abbrev pub Leads : {State : Type 0} → (State → Entry → State → Type 0) → State → List Entry → State → Type 0
Leads Steps s [] last = last ≡ s
Leads {State} Steps s (entry ∷ entries) last = (next : State) × Steps s entry next × Leads Steps next entries last

-- an entry is a step of the machine
abbrev pub IsEntry : Bounds → Machine → Entry → Machine → Type 0
IsEntry b m entry next = IsStep b m entry.call entry.reply next

-- and one in which its seat is given blocks where the placement says
abbrev pub IsPlacedEntry : Bounds → PlacedState → Entry → PlacedState → Type 0
IsPlacedEntry b s entry next = IsPlacedStep b entry.seat s entry.call entry.reply next

-- every state that is reached from an overlap-free one is overlap-free
abbrev pub LawOfOverlap : Type 0
LawOfOverlap = (b : Bounds) (m last : Machine) (entries : List Entry) → IsOverlapFree b m → Leads (IsEntry b) m entries last → IsOverlapFree b last

-- each entry bears a number below n
abbrev pub AllBelow : ℕ → List Entry → Type 0
AllBelow n [] = Unit {0}
AllBelow n (e ∷ es) = (e.seat < n) × AllBelow n es

-- where no stack has a block, the stacks are sound
abbrev pub LawOfNoStacks : Type 0
LawOfNoStacks = (m : Machine) → AreSound (bare m)

-- from an overlap-free state with sound stacks every journal of the placement, by seats below 64, leads to sound stacks
abbrev pub LawOfSoundStacks : Type 0
LawOfSoundStacks = (b : Bounds) (s last : PlacedState) (entries : List Entry) → AllBelow 64 entries → IsOverlapFree b s.machine → AreSound s → Leads (IsPlacedEntry b) s entries last → AreSound last

-- a call that gives, takes or moves a block
abbrev pub IsOfBlock : Call → Type 0
IsOfBlock (Malloc root size) = Unit {0}
IsOfBlock (Free root) = Unit {0}
IsOfBlock (Write root index word) = ⊥
IsOfBlock (Read root index) = ⊥
IsOfBlock (Move from to) = Unit {0}

-- the same seats ask the same, and each call gives, takes or moves a block
abbrev pub AskTheSame : List Entry → List Entry → Type 0
AskTheSame [] [] = Unit {0}
AskTheSame [] (entry ∷ entries) = ⊥
AskTheSame (entry ∷ entries) [] = ⊥
AskTheSame (entry ∷ entries) (other ∷ others) = (entry.seat ≡ other.seat) × (entry.call ≡ other.call) × IsOfBlock entry.call × AskTheSame entries others

-- the placement leaves nothing open: what is asked settles the journal, and the state and stacks behind it
abbrev pub LawOfOneJournal : Type 0
LawOfOneJournal = (b : Bounds) (s last other : PlacedState) (entries others : List Entry) → AskTheSame entries others →
    Leads (IsPlacedEntry b) s entries last → Leads (IsPlacedEntry b) s others other → (entries ≡ others) × (last ≡ other)
