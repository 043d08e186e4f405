-- A slab comes or goes.
use Rattle.std.proofs.Common.{◌≡◌, ◌≢◌, ◌⊎◌, ◌↔◌, ◌==◌, ◌&&◌, not, nat_lt, List, ℕ, ◌+◌, ◌*◌, ◌<◌, ◌≤◌, Bool, true, false, true≢false, Some, None, refl, sym, ap, ◌∙◌, subst, arith, inl, inr, ⊎_elim, if◌then◌else◌}
use Rattle.block_supply.proofs.Common.{cases_eq, cases_Bool, and_left, and_right, cond-true, cond-false, eq-eqb, ne_eqb, lt-ltb, le-leb, ltb-true, leb-true, and_from, false_from_ne_true, class_capacity, class_size-least, with_key, slab_block, Stacks, without_slab, Has, IsInNoStack, AreDistinct, with_key-here, with_key-other, SlabSet, class_in, is_available, StackTable, stacks_of}
use Rattle.bit_words.specs.Numbers.{has as has_number}
use Rattle.heap_model.specs.Slabs.{is_within}
use Rattle.block_supply.specs.Supply.{Supply, IsStacked, IsClearOf, HasSlabMore, HasSlabLess}
use Rattle.block_supply.specs.Kept.{IsKept}
use Rattle.block_supply.proofs.Addresses.{one_class, block_lies}
use Rattle.heap_model.proofs.AddressLists.{Has-passing, Has-filter}

-- the index has one slab more, in which these blocks are available
pub record IsSlabAdded (old new : SlabSet) (start class : ℕ) (Opens : ℕ → Type 0) : Type 0 where
  pub granules : new.granules ≡ old.granules
  pub classes : (s : ℕ) → class_in new s ≡ with_key (class_in old) start (Some class) s
  pub here : (i : ℕ) → (is_available new start i ≡ true) ↔ Opens i
  pub others : (s i : ℕ) → s ≢ start → is_available new s i ≡ is_available old s i

-- all of them are
pub added_all : (old new : SlabSet) (start class : ℕ) → new.granules ≡ old.granules → ((s : ℕ) → class_in new s ≡ with_key (class_in old) start (Some class) s) →
    ((s i : ℕ) → is_available new s i ≡ (if s == start then nat_lt i (class_capacity class) else is_available old s i)) → IsSlabAdded old new start class (λ i. i < class_capacity class)
added_all old new start class granules classes blocks = record {
  granules = granules;
  classes = classes;
  here = λ i.
      let is = blocks start i ∙ cond-true (start == start) (nat_lt i (class_capacity class)) (is_available old start i) (eq-eqb start start refl) in
      (λ available. ltb-true i (class_capacity class) (sym is ∙ available), λ below. is ∙ lt-ltb i (class_capacity class) below);
  others = λ s i differ. blocks s i ∙ cond-false (s == start) (nat_lt i (class_capacity class)) (is_available old s i) (ne_eqb s start differ);
}

-- those that a set of numbers lacks
pub added_but : (old mid new : SlabSet) (start class : ℕ) (used : List ℕ) → IsSlabAdded old mid start class (λ i. i < class_capacity class) → new.granules ≡ mid.granules → ((s : ℕ) → class_in new s ≡ class_in mid s) →
    ((s i : ℕ) → is_available new s i ≡ (if s == start && has_number used i then false else is_available mid s i)) → IsSlabAdded old new start class (λ i. (i < class_capacity class) × (has_number used i ≡ false))
added_but old mid new start class used added granules classes blocks = record {
  granules = granules ∙ added.granules;
  classes = λ s. classes s ∙ added.classes s;
  here = λ i. ⊎_elim
      (λ (has : has_number used i ≡ true).
      let is = blocks start i ∙ cond-true ((start == start) && has_number used i) false (is_available mid start i) (and_from (start == start) (has_number used i) (eq-eqb start start refl) has) in
      (λ available. absurd (true≢false (sym available ∙ is)), λ both. absurd (true≢false (sym has ∙ both.1))))
      (λ (lacks : has_number used i ≡ false).
      let is = blocks start i ∙ cond-false ((start == start) && has_number used i) false (is_available mid start i) (and_right (start == start) (has_number used i) lacks) in
      (λ available. ((added.here i).0 (sym is ∙ available), lacks), λ both. is ∙ (added.here i).1 both.0))
      (cases_Bool (has_number used i));
  others = λ s i differ. blocks s i ∙ cond-false ((s == start) && has_number used i) false (is_available mid s i) (and_left (s == start) (has_number used i) (ne_eqb s start differ)) ∙ added.others s i differ;
}

-- a slab may begin at the granule
pub record IsVacant (s : Supply) (start : ℕ) : Type 0 where
  pub inside : start < s.slabs.granules
  pub fresh : class_in s.slabs start ≡ None
  pub clear : IsClearOf s start

module _ (old : Supply) (kept : IsKept old.slabs old.stacks) (start class : ℕ) (Opens : ℕ → Type 0) (slabs : SlabSet) (vacant : IsVacant old start) (is_class : class < 36)
    (within : (i : ℕ) → Opens i → i < class_capacity class) (added : IsSlabAdded old.slabs slabs start class Opens) where
  abbrev new : Supply
  new = record { slabs = slabs; stacks = old.stacks }

  -- another slab was there before
  was : (s c : ℕ) → s ≢ start → class_in slabs s ≡ Some c → class_in old.slabs s ≡ Some c
  was s c differ is = sym (with_key-other (class_in old.slabs) start s (Some class) differ) ∙ sym (added.classes s) ∙ is

  still : (s c : ℕ) → class_in old.slabs s ≡ Some c → class_in slabs s ≡ Some c
  still s c is = ⊎_elim
      (λ (same : s ≡ start). absurd (let none = sym vacant.fresh ∙ ap (class_in old.slabs) (sym same) ∙ is in cc))
      (λ (differ : s ≢ start). added.classes s ∙ with_key-other (class_in old.slabs) start s (Some class) differ ∙ is)
      (cases_eq s start)

  here_is : (c : ℕ) → class_in slabs start ≡ Some c → c ≡ class
  here_is c is = one_class slabs start c class is (added.classes start ∙ with_key-here (class_in old.slabs) start (Some class))

  -- no block of it is at an address that a stack has
  unstacked : (n : ℕ) → n < class_capacity class → IsInNoStack (stacks_of old.stacks) (slab_block start class n).at
  unstacked n below = record {
    none = λ seat c has.
        let some = kept.stacked seat c (slab_block start class n).at has in
        let one = block_lies start class n below in
        let two = block_lies some.start c some.number some.block.within in
        ⊎_elim
        (λ before. omega (arith, before, one.high, two.low, some.block.is, class_size-least class is_class))
        (λ behind. omega (arith, behind, two.high, one.low, some.block.is, class_size-least c (kept.known some.start c some.block.slab).0))
        (vacant.clear.apart some.start c some.block.slab);
  }

  pub kept_added : IsKept slabs old.stacks
  kept_added = record {
    few = subst (λ n. n ≤ 4096) (sym added.granules) kept.few;
    known = λ s c is. ⊎_elim
        (λ (same : s ≡ start). (subst (λ k. k < 36) (sym (here_is c (ap (class_in slabs) (sym same) ∙ is))) is_class, omega (arith, same, vacant.inside, added.granules)))
        (λ (differ : s ≢ start). let known = kept.known s c (was s c differ is) in (known.0, omega (arith, known.1, added.granules)))
        (cases_eq s start);
    apart = record {
      each = λ s t c d differ one two. ⊎_elim
          (λ (same : s ≡ start). ⊎_elim (λ (also : t ≡ start). absurd (differ (same ∙ sym also))) (λ (apart : t ≢ start). ⊎_elim (λ x. inl (omega (arith, x, same))) (λ x. inr (omega (arith, x, same))) (vacant.clear.apart t d (was t d apart two))) (cases_eq t start))
          (λ (apart : s ≢ start). ⊎_elim
          (λ (also : t ≡ start). ⊎_elim (λ x. inr (omega (arith, x, also))) (λ x. inl (omega (arith, x, also))) (vacant.clear.apart s c (was s c apart one)))
          (λ (too : t ≢ start). kept.apart.each s t c d differ (was s c apart one) (was t d too two))
          (cases_eq t start))
          (cases_eq s start);
    };
    below = λ s n c slab is. ⊎_elim
        (λ (same : s ≡ start). subst (λ k. n < class_capacity k) (sym (here_is c (ap (class_in slabs) (sym same) ∙ slab))) (within n ((added.here n).0 (ap (λ t. is_available slabs t n) (sym same) ∙ is))))
        (λ (differ : s ≢ start). kept.below s n c (was s c differ slab) (sym (added.others s n differ) ∙ is))
        (cases_eq s start);
    distinct = kept.distinct;
    stacked = λ seat c at has. let some = kept.stacked seat c at has in record { start = some.start; number = some.number; block = record { slab = still some.start c some.block.slab; within = some.block.within; is = some.block.is } };
    loose = λ s n c slab is. ⊎_elim
        (λ (same : s ≡ start).
        let opens = (added.here n).0 (ap (λ t. is_available slabs t n) (sym same) ∙ is) in
        subst (λ t. IsInNoStack (stacks_of old.stacks) (slab_block t c n).at) (sym same)
        (subst (λ k. IsInNoStack (stacks_of old.stacks) (slab_block start k n).at) (sym (here_is c (ap (class_in slabs) (sym same) ∙ slab))) (unstacked n (within n opens))))
        (λ (differ : s ≢ start). kept.loose s n c (was s c differ slab) (sym (added.others s n differ) ∙ is))
        (cases_eq s start);
  }

  pub more_added : HasSlabMore old (record { slabs = slabs; stacks = old.stacks }) start class Opens
  more_added = record {
    granules = added.granules;
    classes = added.classes;
    here = λ i. (
      λ is. ⊎_elim
          (λ available. (added.here i).0 available)
          (λ (r : IsStacked new start i).
          let same = here_is r.class r.slab in
          absurd ((unstacked i (subst (λ k. i < class_capacity k) same r.within)).none r.seat r.class (subst (λ k. Has (stacks_of old.stacks r.seat r.class) (slab_block start k i).at) same r.has)))
          is,
      λ opens. inl ((added.here i).1 opens),
    );
    loose = unstacked;
    others = λ s i differ. (
      λ is. ⊎_elim
          (λ available. inl (sym (added.others s i differ) ∙ available))
          (λ (r : IsStacked new s i). inr (record { class = r.class; slab = was s r.class differ r.slab; within = r.within; seat = r.seat; has = r.has }))
          is,
      λ is. ⊎_elim
          (λ available. inl (added.others s i differ ∙ available))
          (λ (r : IsStacked old s i). inr (record { class = r.class; slab = still s r.class r.slab; within = r.within; seat = r.seat; has = r.has }))
          is,
    );
    stacks = refl;
  }

both_true : (x y : Bool) → (x && y) ≡ true → (x ≡ true) × (y ≡ true)
both_true true y is = (refl, is)
both_true false y is = absurd (true≢false (sym is))

-- an address in a slab lies within it, and one in another does not
within_own : (s c n : ℕ) → c < 36 → n < class_capacity c → is_within s (slab_block s c n).at ≡ true
within_own s c n is_class below =
    let lies = block_lies s c n below in
    and_from _ _ (le-leb (16384 * s) (slab_block s c n).at lies.low) (lt-ltb (slab_block s c n).at (16384 * s + 65536) (omega (arith, lies.high, class_size-least c is_class)))

within_other : (s t c n : ℕ) → c < 36 → n < class_capacity c → (s + 4 ≤ t) ⊎ (t + 4 ≤ s) → not (is_within t (slab_block s c n).at) ≡ true
within_other s t c n is_class below apart = ap not (false_from_ne_true (is_within t (slab_block s c n).at) (λ is.
    let lies = block_lies s c n below in
    let low = leb-true (16384 * t) (slab_block s c n).at (both_true _ _ is).0 in
    let high : (slab_block s c n).at < 16384 * t + 65536 = ltb-true (slab_block s c n).at (16384 * t + 65536) (both_true _ _ is).1 in
    ⊎_elim (λ before. omega (arith, before, lies.high, low, class_size-least c is_class)) (λ behind. omega (arith, behind, lies.low, high)) apart))

module _ (old : Supply) (kept : IsKept old.slabs old.stacks) (start : ℕ) (slab : (c : ℕ) × (class_in old.slabs start ≡ Some c)) (slabs : SlabSet) (stacks : StackTable) (distinct : AreDistinct (stacks_of stacks)) (granules : slabs.granules ≡ old.slabs.granules) (classes : (s : ℕ) → class_in slabs s ≡ with_key (class_in old.slabs) start None s)
    (blocks : (s i : ℕ) → is_available slabs s i ≡ (if s == start then false else is_available old.slabs s i)) (purged : stacks_of stacks ≡ without_slab (stacks_of old.stacks) start) where
  abbrev less : Supply
  less = record { slabs = slabs; stacks = stacks }

  -- what is left is another slab
  left : (s c : ℕ) → class_in slabs s ≡ Some c → (s ≢ start) × (class_in old.slabs s ≡ Some c)
  left s c is = ⊎_elim
      (λ (same : s ≡ start). absurd (let none = sym (ap (class_in slabs) same ∙ classes start ∙ with_key-here (class_in old.slabs) start None) ∙ is in cc))
      (λ (differ : s ≢ start). (differ, sym (with_key-other (class_in old.slabs) start s None differ) ∙ sym (classes s) ∙ is))
      (cases_eq s start)

  stays : (s c : ℕ) → s ≢ start → class_in old.slabs s ≡ Some c → class_in slabs s ≡ Some c
  stays s c differ is = classes s ∙ with_key-other (class_in old.slabs) start s None differ ∙ is

  available : (s i : ℕ) → s ≢ start → is_available slabs s i ≡ is_available old.slabs s i
  available s i differ = blocks s i ∙ cond-false (s == start) false (is_available old.slabs s i) (ne_eqb s start differ)

  has_was : (seat c at : ℕ) → Has (stacks_of stacks seat c) at → Has (stacks_of old.stacks seat c) at × (not (is_within start at) ≡ true)
  has_was seat c at has = Has-filter (λ a. not (is_within start a)) (stacks_of old.stacks seat c) at (subst (λ (s : Stacks). Has (s seat c) at) purged has)

  has_still : (seat c at : ℕ) → Has (stacks_of old.stacks seat c) at → not (is_within start at) ≡ true → Has (stacks_of stacks seat c) at
  has_still seat c at has passes = subst (λ (s : Stacks). Has (s seat c) at) (sym purged) (Has-passing (λ a. not (is_within start a)) (stacks_of old.stacks seat c) at has passes)

  pub kept_removed : IsKept slabs stacks
  kept_removed = record {
    few = subst (λ n. n ≤ 4096) (sym granules) kept.few;
    known = λ s c is. let known = kept.known s c (left s c is).1 in (known.0, omega (arith, known.1, granules));
    apart = record { each = λ s t c d differ one two. kept.apart.each s t c d differ (left s c one).1 (left t d two).1 };
    below = λ s n c here is. let was = left s c here in kept.below s n c was.1 (sym (available s n was.0) ∙ is);
    distinct = distinct;
    stacked = λ seat c at has.
        let both = has_was seat c at has in
        let some = kept.stacked seat c at both.0 in
        let differ : some.start ≢ start = λ same. true≢false (sym both.1 ∙ ap (λ a. not (is_within start a)) some.block.is ∙ ap not (subst (λ s. is_within s (slab_block some.start c some.number).at ≡ true) same (within_own some.start c some.number (kept.known some.start c some.block.slab).0 some.block.within))) in
        record { start = some.start; number = some.number; block = record { slab = stays some.start c differ some.block.slab; within = some.block.within; is = some.block.is } };
    loose = λ s n c here is.
        let was = left s c here in
        record { none = λ seat d has. (kept.loose s n c was.1 (sym (available s n was.0) ∙ is)).none seat d (has_was seat d (slab_block s c n).at has).0 };
  }

  pub less_removed : HasSlabLess old (record { slabs = slabs; stacks = stacks }) start
  less_removed = record {
    granules = granules;
    classes = classes;
    others = λ s i differ. (
      λ is. ⊎_elim
          (λ here. inl (sym (available s i differ) ∙ here))
          (λ (r : IsStacked less s i). inr (record { class = r.class; slab = (left s r.class r.slab).1; within = r.within; seat = r.seat; has = (has_was r.seat r.class _ r.has).0 }))
          is,
      λ is. ⊎_elim
          (λ here. inl (available s i differ ∙ here))
          (λ (r : IsStacked old s i). inr (record {
            class = r.class;
            slab = stays s r.class differ r.slab;
            within = r.within;
            seat = r.seat;
            has = has_still r.seat r.class _ r.has (within_other s start r.class i (kept.known s r.class r.slab).0 r.within (kept.apart.each s start r.class slab.0 differ r.slab slab.1));
          }))
          is,
    );
    stacks = purged;
  }
