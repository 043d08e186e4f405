-- What a call that stores does to a heap: it gives its root a block, or takes it from that root, or leaves the heap.
use Rattle.std.proofs.Common.{◌≡◌, ℕ, ◌<◌, Bool, true, false, not, List, Option, Some, None, is_some, ap, ◌∙◌, refl, sym, arith, ⊎_elim, inr}
use Rattle.trace_crashes.proofs.Common.{cases_lt, Call, Malloc, Free, Write, Read, Move, Reply, Bounds, Range, Machine, with_key, root_of, IsWrite, IsMove, IsStep, Same}
use Rattle.heap_model.specs.declared.call.Reply.TheVariants.{Placed, Freed, Wrote, Moved}
use Rattle.heap_model.proofs.Maps.{with_key-here}
use Rattle.heap_model.proofs.Outcomes.{gift, loss}
use Rattle.trace_crashes.specs.Sides.{side_of, side_by}

-- a root that names no block has none
nameless : (block : Option Range) → ((range : Range) → block ≡ Some range → ⊥) → block ≡ None
nameless None past = refl
nameless (Some range) past = absurd (past range refl)

-- steps

-- a call stores where it changes its root's block or a word of it
abbrev pub Stores : Call → Reply → Type 0
Stores (Malloc root asked) (Placed at size) = Unit {0}
Stores (Free root) (Freed at size) = Unit {0}
Stores (Write root index word) Wrote = Unit {0}
Stores (Move from to) (Moved at size) = Unit {0}
Stores call reply = ⊥

-- a block was moved to a root that had none
record IsArrival (b : Bounds) (m : Machine) (root : ℕ) (next : Machine) : Type 0 where
  below : root < b.roots
  none : m.block root ≡ None
  range : Range
  there : next.block root ≡ Some range

arrival : (b : Bounds) (m next : Machine) (from to at size : ℕ) → IsMove b m from to (Moved at size) next → IsArrival b m to next
arrival b m next from to at size step = ⊎_elim
    (λ no_root. absurd (let e = no_root.1.0 in cc))
    (λ rooted. ⊎_elim
    (λ held. ⊎_elim
    (λ occupied. absurd (let e = occupied.1.0 in cc))
    (λ moved. record {
      below = ⊎_elim (λ less. less) (λ past. absurd (rooted.0 (inr past))) (cases_lt to b.roots);
      none = nameless (m.block to) (λ range named. moved.0 (record { range = range; named = named }));
      range = held.0.range;
      there = ap (λ (n : Machine). n.block to) moved.1.1 ∙ with_key-here (with_key m.block from None) to (Some held.0.range);
    })
    held.1)
    (λ empty. absurd (let e = empty.1.0 in cc))
    rooted.1)
    step

-- a word was written of a root's block, and the blocks stayed
record IsWriting (b : Bounds) (m : Machine) (root : ℕ) (next : Machine) : Type 0 where
  below : root < b.roots
  same : next.block ≡ m.block

writing : (b : Bounds) (m next : Machine) (root index word : ℕ) → IsWrite b m root index word Wrote next → IsWriting b m root next
writing b m next root index word step = ⊎_elim
    (λ no_root. absurd (let e = no_root.1.0 in cc))
    (λ rooted. ⊎_elim
    (λ held. ⊎_elim
    (λ past. absurd (let e = past.1.0 in cc))
    (λ here. record { below = omega (arith, rooted.0); same = ap (λ (n : Machine). n.block) here.1.1 })
    held.1)
    (λ empty. absurd (let e = empty.1.0 in cc))
    rooted.1)
    step

-- images, of each of which the block of a root is told by its words
module _ (heap : List ℕ → ℕ → Option Range) where
  -- a call gave a root a block, or took it from that root
  pub record IsChange (old new : List ℕ) (root : ℕ) (given : Bool) : Type 0 where
    pub before : is_some (heap old root) ≡ not given
    pub after : is_some (heap new root) ≡ given

  -- what a call with this reply did to the heap at its root, and on which side of it an image then is
  pub data Effect (old new : List ℕ) (root : ℕ) (reply : Reply) : Type 0 where
    Changed : (given : Bool) → IsChange old new root given → ((has : Bool) → side_of has given ≡ side_by reply has) → Effect old new root reply
    Kept : ((root : ℕ) → heap new root ≡ heap old root) → ((has : Bool) → Same ≡ side_by reply has) → Effect old new root reply

  -- the root is one of so many, and this was done to the heap there
  pub record HasEffect (old new : List ℕ) (roots root : ℕ) (reply : Reply) : Type 0 where
    pub below : root < roots
    pub effect : Effect old new root reply

  module _ (b : Bounds) (old new : List ℕ) (m next : Machine) (was : (root : ℕ) → heap old root ≡ m.block root) (now : (root : ℕ) → heap new root ≡ next.block root) where
    came : (root : ℕ) (range : Range) → m.block root ≡ None → next.block root ≡ Some range → IsChange old new root true
    came root range none there = record { before = ap is_some (was root ∙ none); after = ap is_some (now root ∙ there) }

    went : (root : ℕ) (range : Range) → m.block root ≡ Some range → next.block root ≡ None → IsChange old new root false
    went root range there none = record { before = ap is_some (was root ∙ there); after = ap is_some (now root ∙ none) }

    -- a call that stores
    pub has_effect : (call : Call) (reply : Reply) → IsStep b m call reply next → Stores call reply → HasEffect old new b.roots (root_of call) reply
    has_effect (Malloc root asked) (Placed at size) step stores =
        let range : Range = record { at = at; size = size } in
        let gift = gift b m next (Malloc root asked) at size step in
        let there : next.block root ≡ Some range = ap (λ (f : ℕ → Option Range). f root) gift.after ∙ with_key-here m.block root (Some range) in
        record { below = gift.below; effect = Changed true (came root range gift.none there) (λ has. refl) }
    has_effect (Malloc root asked) reply step stores = absurd stores
    has_effect (Free root) (Freed at size) step stores =
        let range : Range = record { at = at; size = size } in
        let loss = loss b m next (Free root) at size step in
        let none : next.block root ≡ None = ap (λ (f : ℕ → Option Range). f root) loss.after ∙ with_key-here m.block root None in
        record { below = loss.below; effect = Changed false (went root range loss.named none) (λ has. refl) }
    has_effect (Free root) reply step stores = absurd stores
    has_effect (Write root index word) Wrote step stores =
        let writing = writing b m next root index word step in
        record { below = writing.below; effect = Kept (λ root. now root ∙ ap (λ (f : ℕ → Option Range). f root) writing.same ∙ sym (was root)) (λ has. refl) }
    has_effect (Write root index word) reply step stores = absurd stores
    has_effect (Read root index) reply step stores = absurd stores
    has_effect (Move from to) (Moved at size) step stores =
        let arrival = arrival b m next from to at size step in
        record { below = arrival.below; effect = Changed true (came to arrival.range arrival.none arrival.there) (λ has. refl) }
    has_effect (Move from to) reply step stores = absurd stores
