-- What a call means to the heap machine: the step from the state that the old words have to one that the new words have.
use Rattle.std.proofs.Common.{◌≡◌, ◌≢◌, ◌==◌, ℕ, ◌+◌, ◌/◌, ◌<◌, List, [], ◌∷◌, Option, Some, None, refl, sym, ap, subst, ◌∙◌, arith, ⊎_elim}
use Rattle.std.proofs.lemmas.Bool.{cases_eq, cond-true, cond-false, eq-eqb, ne_eqb}
use Rattle.heap_model.specs.declared.call.Call.{Call}
use Rattle.heap_model.specs.declared.call.Reply.{Reply}
use Rattle.heap_model.specs.Machine.{Bounds, Range, Machine, with_key, IsOverlapFree}
use Rattle.heap_model.specs.Choice.{Site, slabs_with}
use Rattle.heap_model.specs.Step.{forgotten, slabs_without}
use Rattle.heap_model.specs.Placement.{Stacks, PlacedState, IsPlacedStep, AreSound}
use Rattle.heap_model.proofs.Maps.{with_key-other}
use Rattle.heap_model.proofs.SoundStacks.{law_of_sound_stacks}
use Rattle.heap_check.specs.Image.{bounds_of}
use Rattle.heap_check.specs.State.{IsWordOf}
use Rattle.gc_check.specs.State.{gc_blocks, gc_slabs, HasGcState, KeepsGcBlocks}
use Rattle.gc_heap.specs.Arena.{state_in}
use Rattle.gc_heap.proofs.States.{with_other, same_state}

-- a value that is left is of another root
left_value : (value : ℕ → ℕ → Option ℕ) (root other index word : ℕ) → forgotten value root other index ≡ Some word → (other ≢ root) × (value other index ≡ Some word)
left_value value root other index word is = ⊎_elim
    (λ (own : other ≡ root). absurd (let none = cond-true (other == root) None (value other index) (eq-eqb other root own) in cc))
    (λ (differ : other ≢ root). (differ, sym (cond-false (other == root) None (value other index) (ne_eqb other root differ)) ∙ is))
    (cases_eq other root)

-- the new words have the state in which the root has this block or none, and these are the slabs
pub after_call : {words new : List ℕ} {m : Machine} (root : ℕ) (block : Option Range) (slab : ℕ → Option ℕ) → HasGcState words m → KeepsGcBlocks words new → ((other : ℕ) → gc_blocks new other ≡ with_key (gc_blocks words) root block other) → ((start : ℕ) → gc_slabs new start ≡ slab start) →
    HasGcState new (record { block = with_key m.block root block; slab = slab; value = forgotten m.value root })
after_call {words} {new} {m} root block slab state keeps blocks slabs = record {
  blocks = λ other. blocks other ∙ (λ i. with_key (λ r. state.blocks r i) root block other);
  slabs = slabs;
  values = λ other index word is.
      let left = left_value m.value root other index word is in
      let was = state.values other index word left.1 in
      let named : gc_blocks words other ≡ Some was.range = state.blocks other ∙ was.named in
      let still : gc_blocks new other ≡ Some was.range = blocks other ∙ with_key-other (gc_blocks words) root other block left.0 ∙ named in
      let k = was.range.at / 8 + index in
      let lies : IsWordOf was.range k = record { low = omega arith; high = omega (arith, was.within) } in
      record {
        range = was.range;
        named = with_key-other m.block root other block left.0 ∙ was.named;
        within = was.within;
        here = keeps.each other other was.range k named still lies ∙ was.here;
      };
}

-- the stacks are sound beside states with the same blocks and slabs

AreSound-other : (m : Machine) (value : ℕ → ℕ → Option ℕ) (stacks : Stacks) → AreSound (record { machine = m; stacks = stacks }) → AreSound (record { machine = with_other m value; stacks = stacks })
AreSound-other m value stacks sound = record {
  distinct = sound.distinct;
  reserved = λ seat class at has.
      let is = sound.reserved seat class at has in
      record { start = is.start; slab = is.slab; number = is.number; within = is.within; unused = record { each = is.unused.each }; is = is.is };
}

pub AreSound-in : (new : List ℕ) (n : Machine) (stacks : Stacks) → ((root : ℕ) → gc_blocks new root ≡ n.block root) → ((start : ℕ) → gc_slabs new start ≡ n.slab start) → AreSound (record { machine = n; stacks = stacks }) → AreSound (record { machine = state_in new; stacks = stacks })
AreSound-in new n stacks blocks slabs sound =
    subst (λ (k : Machine). AreSound (record { machine = k; stacks = stacks })) (λ i. record { block = λ root. sym (blocks root) i; slab = λ start. sym (slabs start) i; value = λ root index. None })
    (AreSound-other n (λ root index. None) stacks sound)

-- a step of a seat keeps them sound
pub sound_after : (b : Bounds) (seat : ℕ) (was next : PlacedState) (call : Call) (reply : Reply) → seat < 64 → IsOverlapFree b was.machine → AreSound was → IsPlacedStep b seat was call reply next → AreSound next
sound_after b seat was next call reply is_seat free sound step =
    law_of_sound_stacks b was next (record { seat = seat; call = call; reply = reply } ∷ []) (is_seat, tt) free sound (next, step, refl)

-- the slabs without a block's are told by blocks and slabs alone
pub slabs_same : {words : List ℕ} {m : Machine} (state : HasGcState words m) (root : ℕ) (range : Range) (s : ℕ) → slabs_without (bounds_of words) (state_in words) root range s ≡ slabs_without (bounds_of words) m root range s
slabs_same {words} {m} state root range s = ap (λ (n : Machine). slabs_without (bounds_of words) n root range s) (same_state state)

-- so are those with a site
pub slabs_with_same : {words : List ℕ} {m : Machine} (state : HasGcState words m) (site : Site) (s : ℕ) → slabs_with (gc_slabs words) site s ≡ slabs_with m.slab site s
slabs_with_same {words} {m} state site s = ap (λ (n : Machine). slabs_with n.slab site s) (same_state state)
