-- The steps of the heap machine: which reply a call may have, and the state after it. The conditions of a call stand in
-- the order in which they are looked at.
use Rattle.std.specs.Prelude.{◌≡◌, ◌⊎◌, ◌==◌, ◌&&◌, ℕ, ◌-◌, ◌*◌, ◌/◌, ◌<◌, ◌≤◌, Option, Some, None, if◌then◌else◌}
use Rattle.heap_model.specs.declared.call.Call.{Call}
use Rattle.heap_model.specs.declared.call.Call.TheVariants.{Malloc, Free, Write, Read, Move}
use Rattle.heap_model.specs.declared.call.Reply.{Reply}
use Rattle.heap_model.specs.declared.call.Reply.TheVariants.{Placed, Freed, Wrote, Value, Moved, NoRoot, Occupied, Empty, ZeroSize, TooLarge, OutOfRange, NoSpace}
use Rattle.heap_model.specs.Machine.{Bounds, Range, Machine, with_key}
use Rattle.heap_model.specs.Choice.{Site, range_of, slabs_with, IsSite, HasNoSite}
use Rattle.heap_model.specs.Slabs.{begins_in, live_below, view_of}

-- states after a call

-- the words of a root's block are forgotten
abbrev pub forgotten : (ℕ → ℕ → Option ℕ) → ℕ → ℕ → ℕ → Option ℕ
forgotten value root other index = if other == root then None else value other index

-- a root names a block anew
abbrev pub with_block : Machine → ℕ → Site → Machine
with_block m root site = record { block = with_key m.block root (Some (range_of site)); slab = slabs_with m.slab site; value = forgotten m.value root }

-- the slabs once a root has lost this block: the one that it lay in leaves where no live block is left in it
abbrev pub slabs_without : Bounds → Machine → ℕ → Range → ℕ → Option ℕ
slabs_without b m root range s =
    if begins_in s (Some range) && (live_below (with_key m.block root None) s b.roots == 0) then None else m.slab s

-- a root names no block any more
abbrev pub without_block : Bounds → Machine → ℕ → Range → Machine
without_block b m root range = record { block = with_key m.block root None; slab = slabs_without b m root range; value = forgotten m.value root }

-- the words of one root's block become those of another's
abbrev pub handed_over : (ℕ → ℕ → Option ℕ) → ℕ → ℕ → ℕ → ℕ → Option ℕ
handed_over value from to other index = if other == to then value from index else forgotten value from other index

-- a root's block passes to another root
abbrev pub with_moved : Machine → ℕ → ℕ → Range → Machine
with_moved m from to range = record { block = with_key (with_key m.block from None) to (Some range); slab = m.slab; value = handed_over m.value from to }

-- a word of a root's block is written
abbrev pub with_value : Machine → ℕ → ℕ → ℕ → Machine
with_value m root index word =
    record { block = m.block; slab = m.slab; value = λ r i. if (r == root) && (i == index) then Some word else m.value r i }

-- rows

-- where the condition holds, what it leads to; else what follows
abbrev pub First : (Condition : Type 0) → (Condition → Type 0) → Type 0 → Type 0
First Condition Then Else = ((holds : Condition) × Then holds) ⊎ (¬ Condition × Else)

-- a refusal changes nothing
abbrev pub IsRefused : Machine → Reply → Reply → Machine → Type 0
IsRefused m refusal reply next = (reply ≡ refusal) × (next ≡ m)

-- the root names a block
pub record HasBlock (m : Machine) (root : ℕ) : Type 0 where
  pub range : Range
  pub named : m.block root ≡ Some range

-- the request is granted a block
pub record IsGrant (b : Bounds) (m : Machine) (root size : ℕ) (reply : Reply) (next : Machine) : Type 0 where
  pub site : Site
  pub chosen : IsSite (view_of b m) size site
  pub is : reply ≡ Placed (range_of site).at (range_of site).size
  pub after : next ≡ with_block m root site

-- calls

abbrev pub IsMalloc : Bounds → Machine → ℕ → ℕ → Reply → Machine → Type 0
IsMalloc b m root size reply next =
    First (b.roots ≤ root) (λ _. IsRefused m NoRoot reply next)
    (First (HasBlock m root) (λ held. IsRefused m (Occupied held.range.at) reply next)
    (First (size ≡ 0) (λ _. IsRefused m ZeroSize reply next)
    (First ((b.granules - b.first) * 16384 < size) (λ _. IsRefused m TooLarge reply next)
    (IsGrant b m root size reply next ⊎ (HasNoSite (view_of b m) size × IsRefused m NoSpace reply next)))))

abbrev pub IsFreeCall : Bounds → Machine → ℕ → Reply → Machine → Type 0
IsFreeCall b m root reply next =
    First (b.roots ≤ root) (λ _. IsRefused m NoRoot reply next)
    (First (HasBlock m root) (λ held. (reply ≡ Freed held.range.at held.range.size) × (next ≡ without_block b m root held.range))
    (IsRefused m Empty reply next))

-- a word of a root's block is asked for: where there is one, this follows
abbrev pub IsOnWord : Bounds → Machine → ℕ → ℕ → Reply → Machine → Type 0 → Type 0
IsOnWord b m root index reply next Done =
    First (b.roots ≤ root) (λ _. IsRefused m NoRoot reply next)
    (First (HasBlock m root) (λ held. First (held.range.size / 8 ≤ index) (λ _. IsRefused m OutOfRange reply next) Done)
    (IsRefused m Empty reply next))

abbrev pub IsWrite : Bounds → Machine → ℕ → ℕ → ℕ → Reply → Machine → Type 0
IsWrite b m root index word reply next = IsOnWord b m root index reply next ((reply ≡ Wrote) × (next ≡ with_value m root index word))

-- the word is the one that was written last, or any where none was written
abbrev pub IsValueOf : Option ℕ → ℕ → Type 0
IsValueOf None word = Unit {0}
IsValueOf (Some written) word = word ≡ written

abbrev pub IsRead : Bounds → Machine → ℕ → ℕ → Reply → Machine → Type 0
IsRead b m root index reply next =
    IsOnWord b m root index reply next ((word : ℕ) × (reply ≡ Value word) × IsValueOf (m.value root index) word × (next ≡ m))

abbrev pub IsMove : Bounds → Machine → ℕ → ℕ → Reply → Machine → Type 0
IsMove b m from to reply next =
    First ((b.roots ≤ from) ⊎ (b.roots ≤ to)) (λ _. IsRefused m NoRoot reply next)
    (First (HasBlock m from) (λ held.
    First (HasBlock m to) (λ other. IsRefused m (Occupied other.range.at) reply next)
    ((reply ≡ Moved held.range.at held.range.size) × (next ≡ with_moved m from to held.range)))
    (IsRefused m Empty reply next))

-- a call, its reply and the state after it
abbrev pub IsStep : Bounds → Machine → Call → Reply → Machine → Type 0
IsStep b m (Malloc root size) reply next = IsMalloc b m root size reply next
IsStep b m (Free root) reply next = IsFreeCall b m root reply next
IsStep b m (Write root index word) reply next = IsWrite b m root index word reply next
IsStep b m (Read root index) reply next = IsRead b m root index reply next
IsStep b m (Move from to) reply next = IsMove b m from to reply next

-- the root that a call speaks of: of a move, the one that gets the block
abbrev pub root_of : Call → ℕ
root_of (Malloc root size) = root
root_of (Free root) = root
root_of (Write root index value) = root
root_of (Read root index) = root
root_of (Move from to) = to
