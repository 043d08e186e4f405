-- The supply of a state, as blocks and slabs come and go.
use Rattle.std.proofs.Common.{◌≡◌, ◌≢◌, ◌⊎◌, ◌↔◌, ◌==◌, ℕ, ◌+◌, ◌<◌, ◌≤◌, Option, Some, None, if◌then◌else◌, refl, sym, ap, ◌∙◌, subst, arith, inl, inr, ⊎_elim}
use Rattle.heap_indexes.proofs.Common.{cases_eq, cases_lt, class_capacity, Bounds, Machine, Range, with_key, AreApart, slab_block, LiesIn, IsUnused, IsOverlapFree, with_class, with_key-cases, with_key-twice, class_known, LiesIn-block, apart_back, class_in, Supply, MayBeGiven, IsWith, IsWithout, IsClearOf, HasSlabLess, Units, AreUnitsOf, law_of_unused_blocks, closed, HasChanged, HasOpened, HasNoneOpen, IsSupplyOf, block_view, view_of, supply_view, AgreeOnBlocks}
use Rattle.heap_indexes.proofs.Machines.{some_same, IsOneMore, unused_less, unused_more, unused_own, used_own, block_or_apart, slabs_differ, block_some}

-- both ways, one after the other
pub iff_then : {A B C : Type 0} → A ↔ B → B ↔ C → A ↔ C
iff_then one two = (λ a. two.0 (one.0 a), λ c. one.1 (two.1 c))

-- the supply says what the view of the state does
pub agree_by : (b : Bounds) (m : Machine) (supply : Supply) → IsSupplyOf m supply → AgreeOnBlocks (supply_view supply) (block_view (view_of b m))
agree_by b m supply are = record { slab = are.classes; unused = λ s c number slab within. are.blocks s c number (sym (are.classes s) ∙ slab) within }

-- two ranges share no byte, or they do
pub apart_or_not : (x y : Range) → AreApart x y ⊎ ¬ (AreApart x y)
apart_or_not x y = ⊎_elim
    (λ (low : x.at + x.size ≤ y.at). inl (inl low))
    (λ (one : y.at < x.at + x.size). ⊎_elim
    (λ (high : y.at + y.size ≤ x.at). inl (inr high))
    (λ (two : x.at < y.at + y.size). inr (λ apart. ⊎_elim (λ a. omega (arith, a, one)) (λ a. omega (arith, a, two)) apart))
    (cases_le (y.at + y.size) x.at))
    (cases_le (x.at + x.size) y.at)
  where
    cases_le : (k n : ℕ) → (k ≤ n) ⊎ (n < k)
    cases_le k n = ⊎_elim (λ less. inr less) (λ from. inl from) (cases_lt n k)

module _ {b : Bounds} {less more : Machine} {root : ℕ} {range : Range} (one : IsOneMore b less more root range) (old new : Supply) where
  -- a block of the slab's class comes
  pub supply_taken : (start class number : ℕ) → IsOverlapFree b less → less.slab start ≡ Some class → number < class_capacity class → range ≡ slab_block start class number → IsSupplyOf less old → IsWithout old new start number → IsSupplyOf more new
  supply_taken start class number apart slab within is are without = record {
    known = λ s c here. are.known s c (sym (one.slab s) ∙ here);
    classes = λ s. without.classes s ∙ are.classes s ∙ sym (one.slab s);
    blocks = λ s c i here below.
        let was = sym (one.slab s) ∙ here in
        ⊎_elim
        (λ same. (
          λ may. absurd (without.gone (subst (λ k. MayBeGiven new k number) same.0 (subst (λ k. MayBeGiven new s k) same.1 may))),
          λ unused. absurd (used_own one (subst (λ (x : Range). 0 < x.size) (sym is) (block_some start class number within)) (subst (IsUnused more) (sym is) (subst (λ k. IsUnused more (slab_block k class number)) same.0 (subst (λ k. IsUnused more (slab_block s k number)) same.2 (subst (λ k. IsUnused more (slab_block s c k)) same.1 unused))))),
        ))
        (λ differ. iff_then (without.others s i differ.0) (iff_then (are.blocks s c i was below) (unused_more one (slab_block s c i) (subst (AreApart (slab_block s c i)) (sym is) differ.1), unused_less one (slab_block s c i))))
        (block_or_apart apart start class number s c i slab within was below);
  }

  -- one goes
  pub supply_returned : (start class number : ℕ) → IsOverlapFree b more → more.slab start ≡ Some class → number < class_capacity class → range ≡ slab_block start class number → IsSupplyOf more old → IsWith old new start number → IsSupplyOf less new
  supply_returned start class number apart slab within is are came = record {
    known = λ s c here. are.known s c (one.slab s ∙ here);
    classes = λ s. came.classes s ∙ are.classes s ∙ one.slab s;
    blocks = λ s c i here below.
        let was = one.slab s ∙ here in
        ⊎_elim
        (λ same. (
          λ may. subst (λ k. IsUnused less (slab_block s c k)) (sym same.1) (subst (λ k. IsUnused less (slab_block s k number)) (sym same.2) (subst (λ k. IsUnused less (slab_block k class number)) (sym same.0) (subst (IsUnused less) is (unused_own one apart)))),
          λ unused. subst (λ k. MayBeGiven new s k) (sym same.1) (subst (λ k. MayBeGiven new k number) (sym same.0) came.here),
        ))
        (λ differ. iff_then (came.others s i differ.0) (iff_then (are.blocks s c i was below) (unused_less one (slab_block s c i), unused_more one (slab_block s c i) (subst (AreApart (slab_block s c i)) (sym is) differ.1))))
        (block_or_apart apart start class number s c i slab within was below);
  }

  -- a block of another size goes, and the blocks that it covered are open where they are clear
  pub supply_opened : (start class : ℕ) (units : Units) → IsOverlapFree b more → IsOverlapFree b less → more.slab start ≡ Some class → LiesIn start range → AreUnitsOf less units → IsSupplyOf more old → HasOpened units old start class range new → IsSupplyOf less new
  supply_opened start class units apart apart_less slab lies units_are are opened = record {
    known = λ s c here. are.known s c (one.slab s ∙ here);
    classes = λ s. opened.classes s ∙ are.classes s ∙ one.slab s;
    blocks = λ s c i here below.
        let was = one.slab s ∙ here in
        ⊎_elim
        (λ (same : s ≡ start).
        let class_is : c ≡ class = some_same c class (sym was ∙ ap more.slab same ∙ slab) in
        let below' : i < class_capacity class = subst (λ k. i < class_capacity k) class_is below in
        let slab_less = sym (one.slab start) ∙ slab in
        subst (λ t. MayBeGiven new t i ↔ IsUnused less (slab_block t c i)) (sym same) (subst (λ k. MayBeGiven new start i ↔ IsUnused less (slab_block start k i)) (sym class_is) (⊎_elim
        (λ (off : AreApart range (slab_block start class i)).
        iff_then (opened.apart i below' off) (iff_then (are.blocks start class i slab below') (unused_less one (slab_block start class i), unused_more one (slab_block start class i) (apart_back range (slab_block start class i) off))))
        (λ (covers : ¬ (AreApart range (slab_block start class i))).
        iff_then (opened.covered i below' covers) (law_of_unused_blocks b less units start class class i units_are apart_less slab_less (class_known class i below') below'))
        (apart_or_not range (slab_block start class i)))))
        (λ (differ : s ≢ start).
        iff_then (opened.others s i differ) (iff_then (are.blocks s c i was below) (
          unused_less one (slab_block s c i),
          unused_more one (slab_block s c i) (slabs_differ apart s start c class (slab_block s c i) range differ was slab (LiesIn-block s c (slab_block s c i) (record { number = i; within = below; is = refl })) lies),
        )))
        (cases_eq s start);
  }

-- none of the blocks that a live one covers is open
pub none_covered : {m : Machine} (supply : Supply) (root start class : ℕ) (range : Range) → IsSupplyOf m supply → m.block root ≡ Some range → m.slab start ≡ Some class → HasNoneOpen supply start class range
none_covered {m} supply root start class range are named slab = record { none = λ i below covers may. covers (apart_back (slab_block start class i) range (((are.blocks start class i slab below).0 may).each root range named)) }

-- a live block is not open
pub used_block : {m : Machine} (supply : Supply) (root start class number : ℕ) → IsSupplyOf m supply → m.block root ≡ Some (slab_block start class number) → m.slab start ≡ Some class → number < class_capacity class → ¬ (MayBeGiven supply start number)
used_block {m} supply root start class number are named slab within may =
    let apart = ((are.blocks start class number slab within).0 may).each root (slab_block start class number) named in
    let some = block_some start class number within in
    ⊎_elim (λ x. omega (arith, x, some)) (λ x. omega (arith, x, some)) apart

-- slabs

module _ (m : Machine) (start class : ℕ) (old new : Supply) where
  -- a slab has the class now, whatever was there
  pub supply_classed : class < 36 → IsSupplyOf m old → ((s : ℕ) → class_in new.slabs s ≡ with_key (class_in old.slabs) start (Some class) s) →
      ((i : ℕ) → i < class_capacity class → MayBeGiven new start i ↔ IsUnused m (slab_block start class i)) → ((s i : ℕ) → s ≢ start → MayBeGiven new s i ↔ MayBeGiven old s i) → IsSupplyOf (with_class m start class) new
  supply_classed known are classes here others = record {
    known = λ s c slab. ⊎_elim
        (λ same. subst (λ k. k < 36) (some_same class c same.1) known)
        (λ there. are.known s c there.1)
        (with_key-cases m.slab start s (Some class) (Some c) slab);
    classes = λ s. classes s ∙ ap (λ (x : Option ℕ). if s == start then Some class else x) (are.classes s);
    blocks = λ s c i slab below. ⊎_elim
        (λ same.
        let class_is : c ≡ class = some_same c class (sym same.1) in
        let iff = here i (subst (λ k. i < class_capacity k) class_is below) in
        subst (λ t. MayBeGiven new t i ↔ IsUnused (with_class m start class) (slab_block t c i)) (sym same.0) (subst (λ k. MayBeGiven new start i ↔ IsUnused (with_class m start class) (slab_block start k i)) (sym class_is)
        (λ may. record { each = (iff.0 may).each }, λ unused. iff.1 (record { each = unused.each }))))
        (λ there.
        let iff = iff_then (others s i there.0) (are.blocks s c i there.1 below) in
        (λ may. record { each = (iff.0 may).each }, λ unused. iff.1 (record { each = unused.each })))
        (with_key-cases m.slab start s (Some class) (Some c) slab);
  }

  -- a slab leaves
  pub supply_closed : IsSupplyOf m old → HasSlabLess old new start → IsSupplyOf (closed m start) new
  supply_closed are gone = record {
    known = λ s c slab. ⊎_elim (λ same. absurd (let none = same.1 in cc)) (λ there. are.known s c there.1) (with_key-cases m.slab start s None (Some c) slab);
    classes = λ s. gone.classes s ∙ ap (λ (x : Option ℕ). if s == start then None else x) (are.classes s);
    blocks = λ s c i slab below. ⊎_elim
        (λ same. absurd (let none = same.1 in cc))
        (λ there.
        let iff = iff_then (gone.others s i there.0) (are.blocks s c i there.1 below) in
        (λ may. record { each = (iff.0 may).each }, λ unused. iff.1 (record { each = unused.each })))
        (with_key-cases m.slab start s None (Some c) slab);
  }

-- what is open in a slab that changed is what is unused
pub changed_here : {b : Bounds} {m : Machine} (units : Units) (old new : Supply) (start class d : ℕ) → IsOverlapFree b m → AreUnitsOf m units → m.slab start ≡ Some d → HasChanged units old start class new →
    (i : ℕ) → i < class_capacity class → MayBeGiven new start i ↔ IsUnused m (slab_block start class i)
changed_here {b} {m} units old new start class d apart are slab changed i below =
    iff_then (changed.came.here i) (iff_then (λ both. both.1, λ clear. (below, clear)) (law_of_unused_blocks b m units start d class i are apart slab (class_known class i below) below))

pub changed_others : (units : Units) (old new : Supply) (start class : ℕ) → HasChanged units old start class new → (s i : ℕ) → s ≢ start → MayBeGiven new s i ↔ MayBeGiven old s i
changed_others units old new start class changed s i differ = iff_then (changed.came.others s i differ) (changed.gone.others s i differ)

pub changed_classes : (units : Units) (old new : Supply) (start class : ℕ) → HasChanged units old start class new → (s : ℕ) → class_in new.slabs s ≡ with_key (class_in old.slabs) start (Some class) s
changed_classes units old new start class changed s =
    changed.came.classes s ∙ ap (λ (x : Option ℕ). if s == start then Some class else x) (changed.gone.classes s) ∙ with_key-twice (class_in old.slabs) start None (Some class) s

-- no other slab has the granules of one
pub clear_granules : {b : Bounds} {m : Machine} (old less : Supply) (start class : ℕ) → IsOverlapFree b m → m.slab start ≡ Some class → IsSupplyOf m old → HasSlabLess old less start → IsClearOf less start
clear_granules {b} {m} old less start class apart slab are gone = record {
  apart = λ other c there. ⊎_elim
      (λ same. absurd (let none = same.1 in cc))
      (λ kept. apart.slabs_apart start other class c (λ same. kept.0 (sym same)) slab (sym (are.classes other) ∙ kept.1))
      (with_key-cases (class_in old.slabs) start other None (Some c) (sym (gone.classes other) ∙ there));
}
