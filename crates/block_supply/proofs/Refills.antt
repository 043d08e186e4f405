-- A refill: the lowest available block is given out, and the next ones of its slab go on a stack.
use Rattle.std.proofs.Common.{◌≡◌, ◌≢◌, ◌⊎◌, ◌↔◌, ℕ, ◌+◌, ◌<◌, ◌≤◌, true, false, true≢false, Some, List, [], ◌∷◌, refl, sym, ap, ◌∙◌, subst, arith, inl, inr, ⊎_elim}
use Rattle.block_supply.proofs.Common.{cases_eq, class_capacity, class_size-least, slab_block, Stacks, with_stack, Has, IsInNoStack, addresses, IsAvailable, IsRefill, AreDistinct, AreRising, AreLoose, AreLowest-same, SlabBlock, StackTable, stacks_of, IsOther, stack_here, stack_there, here_or_there}
use Rattle.slab_index.specs.declared.block.SlabBlocks.{SlabBlocks}
use Rattle.slab_index.specs.SlabSet.{SlabSet, class_in, is_available, AreLowestBlocks, TookLowest}
use Rattle.block_supply.specs.Supply.{Supply, IsStacked, MayBeGiven, IsWithout, supply_view}
use Rattle.block_supply.specs.Kept.{IsKept, HasTaken}
use Rattle.block_supply.proofs.Addresses.{one_class, slab_once, block_once}
use Rattle.block_supply.proofs.Lists.{cases_Has}
use Rattle.heap_model.proofs.AddressLists.{address_has, has_address, lowest_passes, addresses_rise}
use Rattle.block_supply.proofs.Opens.{available_is, is_available-view}

module _ (old : Supply) (kept : IsKept old.slabs old.stacks) (seat class : ℕ) (blocks : SlabBlocks) (slabs : SlabSet) (took : TookLowest old.slabs class 8 blocks slabs) where
  abbrev low : AreLowestBlocks old.slabs class 8 blocks
  low = took.lowest

  abbrev start : ℕ
  start = blocks.start

  abbrev Passes : ℕ → Type 0
  Passes n = is_available old.slabs blocks.start n ≡ true

  is_class : class < 36
  is_class = (kept.known start class low.slab).0

  -- each of the numbers was available, and is a block's
  passed : (n : ℕ) → Has (low.first ∷ low.rest) n → Passes n × (n < class_capacity class)
  passed n has = let is = (lowest_passes Passes 0 8 (low.first ∷ low.rest) n low.lowest has).0 in (is, low.below n is)

  pub numbers_within : (n : ℕ) → Has blocks.numbers.items n → n < class_capacity class
  numbers_within n has = (passed n (subst (λ (xs : List ℕ). Has xs n) low.numbers has)).1

  -- the addresses that go on the stack rise, and are in none
  pub rest_rise : AreRising (addresses blocks.start class low.rest)
  rest_rise = addresses_rise Passes (low.first + 1) 7 start class low.rest (omega (arith, class_size-least class is_class)) low.lowest.2

  pub rest_loose : AreLoose (stacks_of old.stacks) (addresses blocks.start class low.rest)
  rest_loose = record {
    each = λ at has.
        let it = has_address start class low.rest at has in
        subst (IsInNoStack (stacks_of old.stacks)) (sym it.is) (kept.loose start it.number class low.slab (passed it.number (inr it.has)).0);
  }

  -- by the view it is a refill
  pub refill_is : (after : Stacks) → after ≡ with_stack (stacks_of old.stacks) seat class (addresses blocks.start class low.rest) →
      IsRefill (supply_view old) (stacks_of old.stacks) seat class (slab_block blocks.start class low.first).at after
  refill_is after after_is = record {
    start = start;
    slab = low.slab;
    lowest = λ other number less slab is. true≢false (sym (available_is other class number slab is) ∙ low.lower other number less slab);
    number = low.first;
    rest = low.rest;
    taken = AreLowest-same Passes (IsAvailable (supply_view old) (stacks_of old.stacks) start class) 0 8 (low.first ∷ low.rest) same low.lowest;
    is = refl;
    after_is = after_is;
  }
    where
      same : (n : ℕ) → Passes n ↔ IsAvailable (supply_view old) (stacks_of old.stacks) start class n
      same n = (λ is. is_available-view kept start class n low.slab (low.below n is) is, λ is. available_is start class n low.slab is)

  module _ (stacks : StackTable) (distinct : AreDistinct (stacks_of stacks)) (bare : stacks_of old.stacks seat class ≡ []) (filled : stacks_of stacks ≡ with_stack (stacks_of old.stacks) seat class (addresses blocks.start class low.rest)) where
    abbrev new : Supply
    new = record { slabs = slabs; stacks = stacks }

    here : (other c : ℕ) → other ≡ seat → c ≡ class → stacks_of stacks other c ≡ addresses start class low.rest
    here other c same also = ap (λ (s : Stacks). s other c) filled ∙ stack_here (stacks_of old.stacks) seat class other c _ same also

    there : (other c : ℕ) → IsOther seat class other c → stacks_of stacks other c ≡ stacks_of old.stacks other c
    there other c is = ap (λ (s : Stacks). s other c) filled ∙ stack_there (stacks_of old.stacks) seat class other c _ is

    -- an address in a stack was in it, or is that of one of the blocks
    has_was : {G : Type 0} (other c at : ℕ) → Has (stacks_of stacks other c) at → (Has (stacks_of old.stacks other c) at → G) → (c ≡ class → (n : ℕ) → Has low.rest n → at ≡ (slab_block start class n).at → G) → G
    has_was other c at has before came = ⊎_elim
        (λ same. let it = has_address start class low.rest at (subst (λ (xs : List ℕ). Has xs at) (here other c same.0 same.1) has) in came same.1 it.number it.has it.is)
        (λ is. before (subst (λ (xs : List ℕ). Has xs at) (there other c is) has))
        (here_or_there seat class other c)

    -- all addresses stay
    has_still : (other c at : ℕ) → Has (stacks_of old.stacks other c) at → Has (stacks_of stacks other c) at
    has_still other c at has = ⊎_elim
        (λ same. absurd (subst (λ (xs : List ℕ). Has xs at) (ap (λ s. stacks_of old.stacks s c) same.0 ∙ ap (stacks_of old.stacks seat) same.1 ∙ bare) has))
        (λ is. subst (λ (xs : List ℕ). Has xs at) (sym (there other c is)) has)
        (here_or_there seat class other c)

    gone_from : (n : ℕ) → Has (low.first ∷ low.rest) n → is_available slabs start n ≡ false
    gone_from n has = took.taken.taken n (subst (λ (xs : List ℕ). Has xs n) (sym low.numbers) has)

    -- what is available was so, and is none of them
    available_was : (s n : ℕ) → is_available slabs s n ≡ true → (is_available old.slabs s n ≡ true) × ((s ≢ start) ⊎ (¬ (Has (low.first ∷ low.rest) n)))
    available_was s n is = ⊎_elim
        (λ (same : s ≡ start). ⊎_elim
        (λ has. absurd (true≢false (sym is ∙ ap (λ t. is_available slabs t n) same ∙ gone_from n has)))
        (λ none. (ap (λ t. is_available old.slabs t n) same ∙ sym (took.taken.rest n (λ has. none (subst (λ (xs : List ℕ). Has xs n) low.numbers has))) ∙ ap (λ t. is_available slabs t n) (sym same) ∙ is, inr none))
        (cases_Has (low.first ∷ low.rest) n))
        (λ (differ : s ≢ start). (sym (took.taken.others s n differ) ∙ is, inl differ))
        (cases_eq s start)

    -- one of them is at no other block's address
    pub only_one : (s n m : ℕ) → class_in old.slabs s ≡ Some class → n < class_capacity class → Has (low.first ∷ low.rest) m → (slab_block s class n).at ≡ (slab_block start class m).at → (s ≡ start) × (n ≡ m)
    only_one s n m slab within has same = block_once kept.apart class (slab_block s class n).at s start n m is_class (record { slab = slab; within = within; is = refl }) (record { slab = low.slab; within = (passed m has).1; is = same })

    pub kept_refilled : IsKept slabs stacks
    kept_refilled = record {
      few = subst (λ n. n ≤ 4096) (sym took.taken.granules) kept.few;
      known = λ s c slab. let was = kept.known s c (sym (took.taken.classes s) ∙ slab) in (was.0, subst (λ n. s < n) (sym took.taken.granules) was.1);
      apart = record { each = λ s t c d differ one two. kept.apart.each s t c d differ (sym (took.taken.classes s) ∙ one) (sym (took.taken.classes t) ∙ two) };
      below = λ s n c slab is. kept.below s n c (sym (took.taken.classes s) ∙ slab) (available_was s n is).0;
      distinct = distinct;
      stacked = λ other c at has. has_was other c at has
          (λ before. let some = kept.stacked other c at before in record { start = some.start; number = some.number; block = record { slab = took.taken.classes some.start ∙ some.block.slab; within = some.block.within; is = some.block.is } })
          (λ same n came is. record { start = start; number = n; block = record { slab = took.taken.classes start ∙ low.slab ∙ ap (λ k. Some k) (sym same); within = subst (λ k. n < class_capacity k) (sym same) (passed n (inr came)).1; is = is ∙ ap (λ k. (slab_block start k n).at) (sym same) } });
      loose = λ s n c slab is. record {
        none = λ other d has.
            let was_slab = sym (took.taken.classes s) ∙ slab in
            let was = available_was s n is in
            has_was other d (slab_block s c n).at has
            (λ before. (kept.loose s n c was_slab was.0).none other d before)
            (λ same m came at_is.
            let some = kept.loose s n c was_slab was.0 in
            let off : (slab_block start class m).at ≡ (slab_block s c n).at = sym at_is in
            let class_is = same_class s n c was_slab (kept.below s n c was_slab was.0) m came at_is in
            let are = only_one s n m (was_slab ∙ ap (λ k. Some k) class_is) (subst (λ k. n < class_capacity k) class_is (kept.below s n c was_slab was.0)) (inr came) (ap (λ k. (slab_block s k n).at) (sym class_is) ∙ at_is) in
            ⊎_elim (λ differ. differ are.0) (λ none. none (subst (Has (low.first ∷ low.rest)) (sym are.1) (inr came))) was.1);
      };
    }
      where
        same_class : (s n c : ℕ) → class_in old.slabs s ≡ Some c → n < class_capacity c → (m : ℕ) → Has low.rest m → (slab_block s c n).at ≡ (slab_block start class m).at → c ≡ class
        same_class s n c slab within m came is =
            let same = slab_once kept.apart s start c class n m (kept.known s c slab).0 is_class slab low.slab within (passed m (inr came)).1 is in
            one_class old.slabs start c class (ap (class_in old.slabs) (sym same) ∙ slab) low.slab

    pub taken_refilled : (b : SlabBlock) → b.start ≡ blocks.start → b.number ≡ low.first → HasTaken old class b (record { slabs = slabs; stacks = stacks })
    taken_refilled b same also = record {
      slab = ap (class_in old.slabs) same ∙ low.slab;
      within = subst (λ n. n < class_capacity class) (sym also) (passed low.first (inl refl)).1;
      was_open = subst (λ s. MayBeGiven old s b.number) (sym same) (subst (MayBeGiven old start) (sym also) (inl (passed low.first (inl refl)).0));
      without = subst (λ s. IsWithout old new s b.number) (sym same) (subst (IsWithout old new start) (sym also) without);
    }
      where
        -- the first is not among those that came on the stack
        first_not : ¬ (Has low.rest low.first)
        first_not has = let above = (lowest_passes Passes (low.first + 1) 7 low.rest low.first low.lowest.2 has).1 in omega (arith, above)

        none : ¬ (MayBeGiven new start low.first)
        none is = ⊎_elim
            (λ available. true≢false (sym available ∙ gone_from low.first (inl refl)))
            (λ (r : IsStacked new start low.first).
            let class_is = one_class old.slabs start r.class class (sym (took.taken.classes start) ∙ r.slab) low.slab in
            has_was r.seat r.class (slab_block start r.class low.first).at r.has
            (λ before. (kept.loose start low.first class low.slab (passed low.first (inl refl)).0).none r.seat r.class (subst (λ c. Has (stacks_of old.stacks r.seat r.class) (slab_block start c low.first).at) class_is before))
            (λ _ m came at_is. first_not (subst (Has low.rest) (sym (only_one start low.first m low.slab (passed low.first (inl refl)).1 (inr came) (ap (λ k. (slab_block start k low.first).at) (sym class_is) ∙ at_is)).1) came)))
            is

        others : (s i : ℕ) → (s ≢ start) ⊎ (i ≢ low.first) → MayBeGiven new s i ↔ MayBeGiven old s i
        others s i either = (
          λ is. ⊎_elim
              (λ available. inl (available_was s i available).0)
              (λ (r : IsStacked new s i).
              let slab = sym (took.taken.classes s) ∙ r.slab in
              has_was r.seat r.class (slab_block s r.class i).at r.has
              (λ before. inr (record { class = r.class; slab = slab; within = r.within; seat = r.seat; has = before }))
              (λ same m came at_is.
              let are = only_one s i m (slab ∙ ap (λ k. Some k) same) (subst (λ k. i < class_capacity k) same r.within) (inr came) (ap (λ k. (slab_block s k i).at) (sym same) ∙ at_is) in
              inl (ap (λ t. is_available old.slabs t i) are.0 ∙ ap (is_available old.slabs start) are.1 ∙ (passed m (inr came)).0)))
              is,
          λ is. ⊎_elim
              (λ available. ⊎_elim
              (λ (same : s ≡ start). ⊎_elim
              (λ (has : Has low.rest i). inr (subst (λ t. IsStacked new t i) (sym same) (on_stack i has)))
              (λ none. inl (ap (λ t. is_available slabs t i) same ∙ took.taken.rest i (λ has. not_either same none (subst (λ (xs : List ℕ). Has xs i) low.numbers has)) ∙ ap (λ t. is_available old.slabs t i) (sym same) ∙ available))
              (cases_Has low.rest i))
              (λ (differ : s ≢ start). inl (took.taken.others s i differ ∙ available))
              (cases_eq s start))
              (λ (r : IsStacked old s i). inr (record { class = r.class; slab = took.taken.classes s ∙ r.slab; within = r.within; seat = r.seat; has = has_still r.seat r.class _ r.has }))
              is,
        )
          where
            on_stack : (n : ℕ) → Has low.rest n → IsStacked new start n
            on_stack n has = record {
              class = class;
              slab = took.taken.classes start ∙ low.slab;
              within = (passed n (inr has)).1;
              seat = seat;
              has = subst (λ (xs : List ℕ). Has xs (slab_block start class n).at) (sym (here seat class refl refl)) (address_has start class low.rest n has);
            }

            not_either : s ≡ start → ¬ (Has low.rest i) → ¬ (Has (low.first ∷ low.rest) i)
            not_either same none has = ⊎_elim (λ is. ⊎_elim (λ differ. differ same) (λ differ. differ is) either) none has

        without : IsWithout old new start low.first
        without = record { granules = took.taken.granules; classes = took.taken.classes; gone = none; others = others }
