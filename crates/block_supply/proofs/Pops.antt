-- A stack gives its top: the block is open no more.
use Rattle.std.proofs.Common.{◌≡◌, ◌≢◌, ◌⊎◌, ◌↔◌, ℕ, ◌<◌, ◌≤◌, true, Some, List, ◌∷◌, refl, sym, ap, ◌∙◌, subst, inl, inr, ⊎_elim}
use Rattle.block_supply.proofs.Common.{class_capacity, slab_block, Stacks, Has, IsInNoStack, AllDiffer, AreDistinct, SlabBlock, SlabSet, class_in, is_available, stacks_of, GaveTop, IsOther, stack_here, stack_there, here_or_there}
use Rattle.block_supply.specs.Supply.{Supply, IsStacked, MayBeGiven, IsWithout}
use Rattle.block_supply.specs.Kept.{IsBlockAt, IsSomeBlock, AreSlabsApart, IsKept, HasTaken}
use Rattle.block_supply.proofs.Addresses.{one_class, address_differs}

-- the stacks after it
module _ (old new : Stacks) (distinct : AreDistinct old) (seat class at : ℕ) (gave : GaveTop old seat class at new) where
  abbrev before : old seat class ≡ at ∷ gave.top.rest
  before = gave.top.is ∙ ap (λ a. a ∷ gave.top.rest) (sym gave.pop.0)

  here : (other c : ℕ) → other ≡ seat → c ≡ class → new other c ≡ gave.top.rest
  here other c same also = ap (λ (s : Stacks). s other c) gave.pop.1 ∙ stack_here old seat class other c gave.top.rest same also

  there : (other c : ℕ) → IsOther seat class other c → new other c ≡ old other c
  there other c is = ap (λ (s : Stacks). s other c) gave.pop.1 ∙ stack_there old seat class other c gave.top.rest is

  -- the stack had it
  pub had_top : Has (old seat class) at
  had_top = subst (λ (xs : List ℕ). Has xs at) (sym before) (inl refl)

  -- no stack has an address that it had not
  pub has_before : (other c a : ℕ) → Has (new other c) a → Has (old other c) a
  has_before other c a has = ⊎_elim
      (λ same. subst (λ (xs : List ℕ). Has xs a) (sym before ∙ ap (λ s. old s class) (sym same.0) ∙ ap (old other) (sym same.1)) (inr (subst (λ (xs : List ℕ). Has xs a) (here other c same.0 same.1) has)))
      (λ is. subst (λ (xs : List ℕ). Has xs a) (there other c is) has)
      (here_or_there seat class other c)

  -- all other addresses stay
  pub has_still : (other c a : ℕ) → a ≢ at → Has (old other c) a → Has (new other c) a
  has_still other c a differ has = ⊎_elim
      (λ same.
      let all : Has (at ∷ gave.top.rest) a = subst (λ (xs : List ℕ). Has xs a) (ap (λ s. old s c) same.0 ∙ ap (old seat) same.1 ∙ before) has in
      subst (λ (xs : List ℕ). Has xs a) (sym (here other c same.0 same.1)) (⊎_elim (λ is. absurd (differ is)) (λ behind. behind) all))
      (λ is. subst (λ (xs : List ℕ). Has xs a) (sym (there other c is)) has)
      (here_or_there seat class other c)

  -- and it is in none
  pub top_gone : IsInNoStack new at
  top_gone = record {
    none = λ other c has. ⊎_elim
        (λ same. (subst AllDiffer before (distinct.differ seat class)).0 (subst (λ (xs : List ℕ). Has xs at) (here other c same.0 same.1) has))
        (λ is.
        let found = distinct.apart other c seat class at (subst (λ (xs : List ℕ). Has xs at) (there other c is) has) had_top in
        is.apart found.0 found.1)
        (here_or_there seat class other c);
  }

module _ (old new : Supply) (kept : IsKept old.slabs old.stacks) (slabs : new.slabs ≡ old.slabs) (distinct : AreDistinct (stacks_of new.stacks)) (seat class at start number : ℕ)
    (gave : GaveTop (stacks_of old.stacks) seat class at (stacks_of new.stacks)) (block : IsBlockAt old.slabs class at start number) where
  abbrev was : Stacks
  was = stacks_of old.stacks

  is_class : class < 36
  is_class = (kept.known start class block.slab).0

  -- what the supply keeps
  pub kept_popped : IsKept new.slabs new.stacks
  kept_popped = record {
    few = subst (λ (s : SlabSet). s.granules ≤ 4096) (sym slabs) kept.few;
    known = subst (λ (s : SlabSet). (t c : ℕ) → class_in s t ≡ Some c → (c < 36) × (t < s.granules)) (sym slabs) kept.known;
    apart = subst AreSlabsApart (sym slabs) kept.apart;
    below = subst (λ (s : SlabSet). (t n c : ℕ) → class_in s t ≡ Some c → is_available s t n ≡ true → n < class_capacity c) (sym slabs) kept.below;
    distinct = distinct;
    stacked = λ other c a has. subst (λ (s : SlabSet). IsSomeBlock s c a) (sym slabs) (kept.stacked other c a (has_before was (stacks_of new.stacks) kept.distinct seat class at gave other c a has));
    loose = λ s n c slab is. record { none = λ other d has. (kept.loose s n c (ap (λ (z : SlabSet). class_in z s) (sym slabs) ∙ slab) (ap (λ (z : SlabSet). is_available z s n) (sym slabs) ∙ is)).none other d (has_before was (stacks_of new.stacks) kept.distinct seat class at gave other d _ has) };
  }

  -- the block was open, and is so no more
  pub taken_popped : (b : SlabBlock) → b.start ≡ start → b.number ≡ number → HasTaken old class b new
  taken_popped b same also = record {
    slab = ap (class_in old.slabs) same ∙ block.slab;
    within = subst (λ n. n < class_capacity class) (sym also) block.within;
    was_open = subst (λ s. MayBeGiven old s b.number) (sym same) (subst (MayBeGiven old start) (sym also) (inr reserved));
    without = subst (λ s. IsWithout old new s b.number) (sym same) (subst (IsWithout old new start) (sym also) without);
  }
    where
      has : Has (was seat class) (slab_block start class number).at
      has = subst (Has (was seat class)) block.is (had_top was (stacks_of new.stacks) kept.distinct seat class at gave)

      reserved : IsStacked old start number
      reserved = record { class = class; slab = block.slab; within = block.within; seat = seat; has = has }

      none : ¬ (MayBeGiven new start number)
      none is = ⊎_elim
          (λ available. (kept.loose start number class block.slab (ap (λ (z : SlabSet). is_available z start number) (sym slabs) ∙ available)).none seat class has)
          (λ (s : IsStacked new start number).
          let same = one_class old.slabs start s.class class (ap (λ (z : SlabSet). class_in z start) (sym slabs) ∙ s.slab) block.slab in
          (top_gone was (stacks_of new.stacks) kept.distinct seat class at gave).none s.seat s.class (subst (Has (stacks_of new.stacks s.seat s.class)) (ap (λ c. (slab_block start c number).at) same ∙ sym block.is) s.has))
          is

      same_else : (s i : ℕ) → (s ≢ start) ⊎ (i ≢ number) → MayBeGiven new s i ↔ MayBeGiven old s i
      same_else s i either = (
        λ is. ⊎_elim
            (λ available. inl (ap (λ (z : SlabSet). is_available z s i) (sym slabs) ∙ available))
            (λ (r : IsStacked new s i). inr (record {
              class = r.class;
              slab = ap (λ (z : SlabSet). class_in z s) (sym slabs) ∙ r.slab;
              within = r.within;
              seat = r.seat;
              has = has_before was (stacks_of new.stacks) kept.distinct seat class at gave r.seat r.class _ r.has;
            }))
            is,
        λ is. ⊎_elim
            (λ available. inl (ap (λ (z : SlabSet). is_available z s i) slabs ∙ available))
            (λ (r : IsStacked old s i). inr (record {
              class = r.class;
              slab = ap (λ (z : SlabSet). class_in z s) slabs ∙ r.slab;
              within = r.within;
              seat = r.seat;
              has = has_still was (stacks_of new.stacks) kept.distinct seat class at gave r.seat r.class _ (differs r) r.has;
            }))
            is,
      )
        where
          differs : (r : IsStacked old s i) → (slab_block s r.class i).at ≢ at
          differs r same =
              let found = kept.distinct.apart r.seat r.class seat class at (subst (Has (was r.seat r.class)) same r.has) (had_top was (stacks_of new.stacks) kept.distinct seat class at gave) in
              address_differs kept.apart class at start s number i is_class block (r.slab ∙ ap (λ c. Some c) found.1) (subst (λ c. i < class_capacity c) found.1 r.within) either (ap (λ c. (slab_block s c i).at) (sym found.1) ∙ same)

      without : IsWithout old new start number
      without = record { granules = ap (λ (z : SlabSet). z.granules) slabs; classes = λ s. ap (λ (z : SlabSet). class_in z s) slabs; gone = none; others = same_else }
