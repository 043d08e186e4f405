-- A block comes back: it goes on a stack, or is available.
use Rattle.std.proofs.Common.{◌≡◌, ◌≢◌, ◌⊎◌, ◌↔◌, ◌==◌, ◌&&◌, ℕ, ◌<◌, ◌≤◌, true, false, true≢false, Some, List, ◌∷◌, refl, sym, ap, ◌∙◌, subst, inl, inr, ⊎_elim, if◌then◌else◌}
use Rattle.block_supply.proofs.Common.{cases_eq, cases_Bool, cond-true, cond-false, eq-eqb, ne_eqb, and_from, and_left, and_right, class_capacity, slab_block, Stacks, with_stack, Has, IsInNoStack, AreDistinct, SlabSet, class_in, is_available, StackTable, stacks_of, IsOther, stack_here, stack_there, here_or_there}
use Rattle.block_supply.specs.Supply.{Supply, IsStacked, MayBeGiven, IsWith}
use Rattle.block_supply.specs.Kept.{IsKept}
use Rattle.block_supply.proofs.Addresses.{one_class, slab_once, block_once, address_differs}
use Rattle.block_supply.proofs.Opens.{loose_if}

module _ (old : Supply) (kept : IsKept old.slabs old.stacks) (class start number : ℕ) (slab : class_in old.slabs start ≡ Some class) (within : number < class_capacity class) (used : ¬ (MayBeGiven old start number)) where
  abbrev at : ℕ
  at = (slab_block start class number).at

  -- it is in no stack, and not available
  pub was_loose : IsInNoStack (stacks_of old.stacks) (slab_block start class number).at
  was_loose = loose_if kept start class number slab within (λ is. used (inr is))

  pub was_used : is_available old.slabs start number ≡ false
  was_used = ⊎_elim (λ is. absurd (used (inl is))) (λ no. no) (cases_Bool (is_available old.slabs start number))

  -- on a stack
  module _ (seat : ℕ) (stacks : StackTable) (distinct : AreDistinct (stacks_of stacks)) (put : stacks_of stacks ≡ with_stack (stacks_of old.stacks) seat class ((slab_block start class number).at ∷ stacks_of old.stacks seat class)) where
    abbrev on : Supply
    on = record { slabs = old.slabs; stacks = stacks }

    here : (other c : ℕ) → other ≡ seat → c ≡ class → stacks_of stacks other c ≡ at ∷ stacks_of old.stacks seat class
    here other c same also = ap (λ (s : Stacks). s other c) put ∙ stack_here (stacks_of old.stacks) seat class other c _ same also

    there : (other c : ℕ) → IsOther seat class other c → stacks_of stacks other c ≡ stacks_of old.stacks other c
    there other c is = ap (λ (s : Stacks). s other c) put ∙ stack_there (stacks_of old.stacks) seat class other c _ is

    -- an address in a stack was in it, or is the block's
    has_was : (other c a : ℕ) → Has (stacks_of stacks other c) a → Has (stacks_of old.stacks other c) a ⊎ ((c ≡ class) × (a ≡ at))
    has_was other c a has = ⊎_elim
        (λ same. ⊎_elim
        (λ is. inr (same.1, is))
        (λ behind. inl (subst (λ (xs : List ℕ). Has xs a) (ap (stacks_of old.stacks seat) (sym same.1) ∙ ap (λ s. stacks_of old.stacks s c) (sym same.0)) behind))
        (subst (λ (xs : List ℕ). Has xs a) (here other c same.0 same.1) has))
        (λ is. inl (subst (λ (xs : List ℕ). Has xs a) (there other c is) has))
        (here_or_there seat class other c)

    has_still : (other c a : ℕ) → Has (stacks_of old.stacks other c) a → Has (stacks_of stacks other c) a
    has_still other c a has = ⊎_elim
        (λ same. subst (λ (xs : List ℕ). Has xs a) (sym (here other c same.0 same.1)) (inr (subst (λ (xs : List ℕ). Has xs a) (ap (λ s. stacks_of old.stacks s c) same.0 ∙ ap (stacks_of old.stacks seat) same.1) has)))
        (λ is. subst (λ (xs : List ℕ). Has xs a) (sym (there other c is)) has)
        (here_or_there seat class other c)

    pub kept_on : IsKept old.slabs stacks
    kept_on = record {
      few = kept.few;
      known = kept.known;
      apart = kept.apart;
      below = kept.below;
      distinct = distinct;
      stacked = λ other c a has. ⊎_elim
          (λ before. kept.stacked other c a before)
          (λ is. record { start = start; number = number; block = record { slab = slab ∙ ap (λ k. Some k) (sym is.0); within = subst (λ k. number < class_capacity k) (sym is.0) within; is = is.1 ∙ ap (λ k. (slab_block start k number).at) (sym is.0) } })
          (has_was other c a has);
      loose = λ s n c slab' is. record {
        none = λ other d has. ⊎_elim
            (λ before. (kept.loose s n c slab' is).none other d before)
            (λ came.
            let same = slab_once kept.apart s start c class n number (kept.known s c slab').0 (kept.known start class slab).0 slab' slab (kept.below s n c slab' is) within came.1 in
            let class_is = one_class old.slabs start c class (ap (class_in old.slabs) (sym same) ∙ slab') slab in
            let are = block_once kept.apart class at s start n number (kept.known start class slab).0 (record { slab = slab' ∙ ap (λ k. Some k) class_is; within = subst (λ k. n < class_capacity k) class_is (kept.below s n c slab' is); is = sym came.1 ∙ ap (λ k. (slab_block s k n).at) class_is }) (record { slab = slab; within = within; is = refl }) in
            true≢false (sym is ∙ ap (λ t. is_available old.slabs t n) are.0 ∙ ap (is_available old.slabs start) are.1 ∙ was_used))
            (has_was other d (slab_block s c n).at has);
      };
    }

    pub with_on : IsWith old (record { slabs = old.slabs; stacks = stacks }) start number
    with_on = record {
      granules = refl;
      classes = λ s. refl;
      here = inr (record { class = class; slab = slab; within = within; seat = seat; has = subst (λ (xs : List ℕ). Has xs at) (sym (here seat class refl refl)) (inl refl) });
      others = λ s i either. (
        λ is. ⊎_elim
            (λ available. inl available)
            (λ (r : IsStacked on s i). ⊎_elim
            (λ before. inr (record { class = r.class; slab = r.slab; within = r.within; seat = r.seat; has = before }))
            (λ came. absurd (address_differs kept.apart class at start s number i (kept.known start class slab).0 (record { slab = slab; within = within; is = refl }) (r.slab ∙ ap (λ k. Some k) came.0) (subst (λ k. i < class_capacity k) came.0 r.within) either (ap (λ k. (slab_block s k i).at) (sym came.0) ∙ came.1)))
            (has_was r.seat r.class (slab_block s r.class i).at r.has))
            is,
        λ is. ⊎_elim
            (λ available. inl available)
            (λ (r : IsStacked old s i). inr (record { class = r.class; slab = r.slab; within = r.within; seat = r.seat; has = has_still r.seat r.class _ r.has }))
            is,
      );
    }

  -- or available
  module _ (slabs : SlabSet) (granules : slabs.granules ≡ old.slabs.granules) (classes : (s : ℕ) → class_in slabs s ≡ class_in old.slabs s)
      (blocks : (s i : ℕ) → is_available slabs s i ≡ (if (s == start) && (i == number) then true else is_available old.slabs s i)) where
    abbrev free : Supply
    free = record { slabs = slabs; stacks = old.stacks }

    elsewhere : (s i : ℕ) → (s ≢ start) ⊎ (i ≢ number) → is_available slabs s i ≡ is_available old.slabs s i
    elsewhere s i either = blocks s i
        ∙ cond-false ((s == start) && (i == number)) true (is_available old.slabs s i)
        (⊎_elim (λ apart. and_left (s == start) (i == number) (ne_eqb s start apart)) (λ apart. and_right (s == start) (i == number) (ne_eqb i number apart)) either)

    stacked_same : (s i : ℕ) → IsStacked free s i ↔ IsStacked old s i
    stacked_same s i = (
      λ r. record { class = r.class; slab = sym (classes s) ∙ r.slab; within = r.within; seat = r.seat; has = r.has },
      λ r. record { class = r.class; slab = classes s ∙ r.slab; within = r.within; seat = r.seat; has = r.has },
    )

    pub kept_free : IsKept slabs old.stacks
    kept_free = record {
      few = subst (λ n. n ≤ 4096) (sym granules) kept.few;
      known = λ s c is. let was = kept.known s c (sym (classes s) ∙ is) in (was.0, subst (λ n. s < n) (sym granules) was.1);
      apart = record { each = λ s t c d differ one two. kept.apart.each s t c d differ (sym (classes s) ∙ one) (sym (classes t) ∙ two) };
      below = λ s n c slab' is. ⊎_elim
          (λ (same : s ≡ start). ⊎_elim
          (λ (also : n ≡ number). subst (λ k. n < class_capacity k) (one_class old.slabs start class c slab (sym (classes start) ∙ ap (class_in slabs) (sym same) ∙ slab')) (subst (λ m. m < class_capacity class) (sym also) within))
          (λ (differ : n ≢ number). kept.below s n c (sym (classes s) ∙ slab') (sym (elsewhere s n (inr differ)) ∙ is))
          (cases_eq n number))
          (λ (differ : s ≢ start). kept.below s n c (sym (classes s) ∙ slab') (sym (elsewhere s n (inl differ)) ∙ is))
          (cases_eq s start);
      distinct = kept.distinct;
      stacked = λ other c a has. let some = kept.stacked other c a has in record { start = some.start; number = some.number; block = record { slab = classes some.start ∙ some.block.slab; within = some.block.within; is = some.block.is } };
      loose = λ s n c slab' is. ⊎_elim
          (λ (same : s ≡ start). ⊎_elim
          (λ (also : n ≡ number).
          let class_is = one_class old.slabs start c class (sym (classes start) ∙ ap (class_in slabs) (sym same) ∙ slab') slab in
          subst (λ k. IsInNoStack (stacks_of old.stacks) (slab_block s k n).at) (sym class_is) (subst (λ t. IsInNoStack (stacks_of old.stacks) (slab_block t class n).at) (sym same) (subst (λ m. IsInNoStack (stacks_of old.stacks) (slab_block start class m).at) (sym also) was_loose)))
          (λ (differ : n ≢ number). kept.loose s n c (sym (classes s) ∙ slab') (sym (elsewhere s n (inr differ)) ∙ is))
          (cases_eq n number))
          (λ (differ : s ≢ start). kept.loose s n c (sym (classes s) ∙ slab') (sym (elsewhere s n (inl differ)) ∙ is))
          (cases_eq s start);
    }

    pub with_free : IsWith old (record { slabs = slabs; stacks = old.stacks }) start number
    with_free = record {
      granules = granules;
      classes = classes;
      here = inl (blocks start number ∙ cond-true ((start == start) && (number == number)) true (is_available old.slabs start number) (and_from (start == start) (number == number) (eq-eqb start start refl) (eq-eqb number number refl)));
      others = λ s i either. (
        λ is. ⊎_elim (λ available. inl (sym (elsewhere s i either) ∙ available)) (λ r. inr ((stacked_same s i).0 r)) is,
        λ is. ⊎_elim (λ available. inl (elsewhere s i either ∙ available)) (λ r. inr ((stacked_same s i).1 r)) is,
      );
    }
