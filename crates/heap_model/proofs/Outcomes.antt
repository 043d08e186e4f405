-- What a step did, by its reply: nothing, or a block was given, taken, written or moved.
use Rattle.std.proofs.Common.{◌≡◌, ◌≢◌, ◌⊎◌, ◌<◌, ◌≤◌, ℕ, Option, Some, None, refl, sym, ap, subst, ◌∙◌, arith, ⊎_elim, inr}
use Rattle.std.proofs.lemmas.Bool.{cases_lt}
use Rattle.heap_model.specs.declared.call.Call.{Call}
use Rattle.heap_model.specs.declared.call.Call.TheVariants.{Malloc, Free, Write, Read, Move}
use Rattle.heap_model.specs.declared.call.Reply.{Reply}
use Rattle.heap_model.specs.declared.call.Reply.TheVariants.{Placed, Freed, Wrote, Value, Moved, NoRoot, Occupied, Empty, ZeroSize, TooLarge, OutOfRange, NoSpace}
use Rattle.heap_model.specs.Machine.{Bounds, Range, Machine, with_key}
use Rattle.heap_model.specs.Choice.{range_of}
use Rattle.heap_model.specs.Step.{HasBlock, IsRefused, IsGrant, IsOnWord, without_block, with_moved, with_value, IsStep, root_of}

-- a reply that a block was placed or freed
abbrev pub IsOfHeap : Reply → Type 0
IsOfHeap (Placed at size) = Unit {0}
IsOfHeap (Freed at size) = Unit {0}
IsOfHeap Wrote = ⊥
IsOfHeap (Value word) = ⊥
IsOfHeap (Moved at size) = ⊥
IsOfHeap NoRoot = ⊥
IsOfHeap (Occupied at) = ⊥
IsOfHeap Empty = ⊥
IsOfHeap ZeroSize = ⊥
IsOfHeap TooLarge = ⊥
IsOfHeap OutOfRange = ⊥
IsOfHeap NoSpace = ⊥

-- a block was given, or taken, or passed on
pub record IsGiven (b : Bounds) (m : Machine) (root size : ℕ) (reply : Reply) (next : Machine) : Type 0 where
  pub below : root < b.roots
  pub none : m.block root ≡ None
  pub some : size ≢ 0
  pub grant : IsGrant b m root size reply next

pub record IsTaken (b : Bounds) (m : Machine) (root : ℕ) (reply : Reply) (next : Machine) : Type 0 where
  pub below : root < b.roots
  pub range : Range
  pub named : m.block root ≡ Some range
  pub is : reply ≡ Freed range.at range.size
  pub after : next ≡ without_block b m root range

pub record IsPassed (b : Bounds) (m : Machine) (from to : ℕ) (reply : Reply) (next : Machine) : Type 0 where
  pub below : to < b.roots
  pub range : Range
  pub named : m.block from ≡ Some range
  pub is : reply ≡ Moved range.at range.size
  pub after : next ≡ with_moved m from to range

pub data Outcome (b : Bounds) (m : Machine) (call : Call) (reply : Reply) (next : Machine) : Type 0 where
  Stayed : ¬ (IsOfHeap reply) → next ≡ m → Outcome b m call reply next
  Given : (root size : ℕ) → call ≡ Malloc root size → IsGiven b m root size reply next → Outcome b m call reply next
  Taken : (root : ℕ) → call ≡ Free root → IsTaken b m root reply next → Outcome b m call reply next
  Written : (root index word : ℕ) → ¬ (IsOfHeap reply) → next ≡ with_value m root index word → Outcome b m call reply next
  Passed : (from to : ℕ) → IsPassed b m from to reply next → Outcome b m call reply next

-- a root that has no block names none
nameless : (m : Machine) (root : ℕ) → ¬ (HasBlock m root) → m.block root ≡ None
nameless m root bare = cases (m.block root) (λ range named. bare (record { range = range; named = named }))
  where
    cases : (block : Option Range) → ((range : Range) → block ≡ Some range → ⊥) → block ≡ None
    cases None none = refl
    cases (Some range) none = absurd (none range refl)

-- a reply that is one of no placing or freeing
module _ (b : Bounds) (m next : Machine) (reply : Reply) where
  not_heap : (other : Reply) → ¬ (IsOfHeap other) → reply ≡ other → ¬ (IsOfHeap reply)
  not_heap other not is of = not (subst IsOfHeap is of)

  stayed : (call : Call) (refusal : Reply) → ¬ (IsOfHeap refusal) → IsRefused m refusal reply next → Outcome b m call reply next
  stayed call refusal not is = Stayed (not_heap refusal not is.0) is.1

  on_word : (call : Call) (root index : ℕ) (Done : Type 0) → (Done → Outcome b m call reply next) → IsOnWord b m root index reply next Done → Outcome b m call reply next
  on_word call root index Done done is = ⊎_elim
      (λ no_root. stayed call NoRoot (λ of. of) no_root.1)
      (λ rooted. ⊎_elim
      (λ held. ⊎_elim (λ past. stayed call OutOfRange (λ of. of) past.1) (λ here. done here.1) held.1)
      (λ empty. stayed call Empty (λ of. of) empty.1)
      rooted.1)
      is

  pub outcome : (call : Call) → IsStep b m call reply next → Outcome b m call reply next
  outcome (Malloc root size) is = ⊎_elim
      (λ no_root. stayed _ NoRoot (λ of. of) no_root.1)
      (λ rooted. ⊎_elim
      (λ held. stayed _ (Occupied held.0.range.at) (λ of. of) held.1)
      (λ bare. ⊎_elim
      (λ empty. stayed _ ZeroSize (λ of. of) empty.1)
      (λ some. ⊎_elim
      (λ large. stayed _ TooLarge (λ of. of) large.1)
      (λ asked. ⊎_elim
      (λ grant. Given root size refl (record { below = omega (arith, rooted.0); none = nameless m root bare.0; some = some.0; grant = grant }))
      (λ lacking. stayed _ NoSpace (λ of. of) lacking.1)
      asked.1)
      some.1)
      bare.1)
      rooted.1)
      is
  outcome (Free root) is = ⊎_elim
      (λ no_root. stayed _ NoRoot (λ of. of) no_root.1)
      (λ rooted. ⊎_elim
      (λ held. Taken root refl (record { below = omega (arith, rooted.0); range = held.0.range; named = held.0.named; is = held.1.0; after = held.1.1 }))
      (λ empty. stayed _ Empty (λ of. of) empty.1)
      rooted.1)
      is
  outcome (Write root index word) is = on_word _ root index _ (λ done. Written root index word (not_heap Wrote (λ of. of) done.0) done.1) is
  outcome (Read root index) is = on_word _ root index _ (λ done. Stayed (not_heap (Value done.0) (λ of. of) done.1) done.3) is
  outcome (Move from to) is = ⊎_elim
      (λ no_root. stayed _ NoRoot (λ of. of) no_root.1)
      (λ rooted. ⊎_elim
      (λ held. ⊎_elim
      (λ occupied. stayed _ (Occupied occupied.0.range.at) (λ of. of) occupied.1)
      (λ moved. Passed from to (record { below = below rooted.0; range = held.0.range; named = held.0.named; is = moved.1.0; after = moved.1.1 }))
      held.1)
      (λ empty. stayed _ Empty (λ of. of) empty.1)
      rooted.1)
      is
    where
      below : ¬ ((b.roots ≤ from) ⊎ (b.roots ≤ to)) → to < b.roots
      below none = ⊎_elim (λ less. less) (λ past. absurd (none (inr past))) (cases_lt to b.roots)

-- a block is given to a root that has none
pub record IsGift (b : Bounds) (m : Machine) (root : ℕ) (range : Range) (next : Machine) : Type 0 where
  pub below : root < b.roots
  pub none : m.block root ≡ None
  pub after : next.block ≡ with_key m.block root (Some range)

-- a root loses its block
pub record IsLoss (b : Bounds) (m : Machine) (root : ℕ) (range : Range) (next : Machine) : Type 0 where
  pub below : root < b.roots
  pub named : m.block root ≡ Some range
  pub after : next.block ≡ with_key m.block root None

module _ (b : Bounds) (m next : Machine) (call : Call) (at size : ℕ) where
  pub gift : IsStep b m call (Placed at size) next → IsGift b m (root_of call) (record { at = at; size = size }) next
  gift step = elim (outcome b m next (Placed at size) call step) [
    | Stayed not same ↦ absurd (not tt)
    | Given root asked is given ↦
        let range : Range = range_of given.grant.site in
        let reply : Placed at size ≡ Placed range.at range.size = given.grant.is in
        let low : range.at ≡ at = cc in
        let wide : range.size ≡ size = cc in
        subst (λ (r : ℕ). IsGift b m r (record { at = at; size = size }) next) (sym (ap root_of is))
        (record { below = given.below; none = given.none; after = ap (λ (n : Machine). n.block) given.grant.after ∙ (λ i. with_key m.block root (Some (record { at = low i; size = wide i }))) })
    | Taken root is taken ↦ absurd (let reply = taken.is in cc)
    | Written root index word not same ↦ absurd (not tt)
    | Passed from to passed ↦ absurd (let reply = passed.is in cc)
  ]

  pub loss : IsStep b m call (Freed at size) next → IsLoss b m (root_of call) (record { at = at; size = size }) next
  loss step = elim (outcome b m next (Freed at size) call step) [
    | Stayed not same ↦ absurd (not tt)
    | Given root asked is given ↦ absurd (let reply = given.grant.is in cc)
    | Taken root is taken ↦
        let range : Range = taken.range in
        let reply : Freed at size ≡ Freed range.at range.size = taken.is in
        let low : range.at ≡ at = cc in
        let wide : range.size ≡ size = cc in
        subst (λ (r : ℕ). IsLoss b m r (record { at = at; size = size }) next) (sym (ap root_of is))
        (record { below = taken.below; named = taken.named ∙ (λ i. Some (record { at = low i; size = wide i })); after = ap (λ (n : Machine). n.block) taken.after })
    | Written root index word not same ↦ absurd (not tt)
    | Passed from to passed ↦ absurd (let reply = passed.is in cc)
  ]
