-- Worked rows of the best of two slabs that are fit.
use Rattle.std.proofs.Common.{◌≡◌, ◌≢◌, ◌⊎◌, ◌<◌, ◌≤◌, ◌+◌, ℕ, Some, None, if◌then◌else◌, refl, sym, ap, ◌∙◌, arith, inl, inr, ⊎_elim, lit<, lit≤}
use Rattle.size_classes.specs.Classes.{sizes, class_size, class_capacity}
use Rattle.heap_model.specs.Machine.{Bounds, Range, Machine, LiesIn, AreApart, no_heap, with_key, slab_block}
use Rattle.heap_model.specs.Choice.{IsFit, IsBestSlab, range_of, slab_view}
use Rattle.heap_model.specs.Choice.Site.{Granules, InSlab, InNewSlab}
use Rattle.heap_model.specs.Slabs.{live_below, begins_in, view_of}
use Rattle.heap_model.specs.Step.{with_block}
use Rattle.heap_model.proofs.Maps.{with_key-cases}
use Rattle.heap_model.proofs.Freeing.{live_below-none}
use Rattle.heap_model.proofs.Counts.{live_below-with, EachBlock, EachBlock-none, EachBlock-with}
use Rattle.definition_tests.proofs.Morphs.{small}

module _ (roots : ℕ) (many : 2001 ≤ roots) where
  abbrev b : Bounds
  b = small roots

  -- slabs of the classes 3 and 6 at granules 4 and 8 with a block each, and a large block behind them
  abbrev even : Machine
  even = with_block (with_block (with_block no_heap 1 (InNewSlab 4 3 0)) 2 (InNewSlab 8 6 0)) 0 (Granules 12 4)

  -- the same, with a second block in the first slab
  abbrev uneven : Machine
  uneven = with_block even 3 (InSlab 4 3 1)

  -- what a root names in either
  abbrev IsEither : ℕ → Range → Type 0
  IsEither root range = (range ≡ slab_block 4 3 0) ⊎ ((range ≡ slab_block 8 6 0) ⊎ ((range ≡ range_of (Granules 12 4)) ⊎ (range ≡ slab_block 4 3 1)))

  each_even : EachBlock even IsEither
  each_even =
      EachBlock-with _ IsEither 0 (Granules 12 4) (EachBlock-with _ IsEither 2 (InNewSlab 8 6 0) (EachBlock-with no_heap IsEither 1 (InNewSlab 4 3 0) (EachBlock-none IsEither) (inl refl)) (inr (inl refl))) (inr (inr (inl refl)))

  each_uneven : EachBlock uneven IsEither
  each_uneven = EachBlock-with even IsEither 3 (InSlab 4 3 1) each_even (inr (inr (inr refl)))

  -- either slab, and no other
  slab_either : (t c : ℕ) → even.slab t ≡ Some c → (t ≡ 4) ⊎ (t ≡ 8)
  slab_either t c slab = ⊎_elim
      (λ here. inr here.0)
      (λ there. ⊎_elim (λ here. inl here.0) (λ none. absurd (let is = none.1 in cc)) (with_key-cases (λ _. None) 4 t (Some 3) (Some c) there.1))
      (with_key-cases (with_key (λ _. None) 4 (Some 3)) 8 t (Some 6) (Some c) slab)

  -- one block lives in each, or two in the first
  abbrev count : Machine → ℕ → ℕ
  count m s = live_below m.block s roots

  counts : (count even 4 ≡ 1) × (count even 8 ≡ 1) × (count uneven 4 ≡ 2) × (count uneven 8 ≡ 1)
  unfolding class_size sizes
  counts = (at_even 4 refl, at_even 8 refl, live_below-with even.block 4 roots 3 (slab_block 4 3 1) (omega (arith, many)) refl ∙ ap (λ n. 1 + n) (at_even 4 refl), let same = live_below-with even.block 8 roots 3 (slab_block 4 3 1) (omega (arith, many)) refl in omega (arith, same, at_even 8 refl))
    where
      sum_at : ℕ → ℕ
      sum_at s = (if begins_in s (Some (range_of (Granules 12 4))) then 1 else 0) + ((if begins_in s (Some (slab_block 8 6 0)) then 1 else 0) + ((if begins_in s (Some (slab_block 4 3 0)) then 1 else 0) + 0))

      at_even : (s : ℕ) → sum_at s ≡ 1 → count even s ≡ 1
      at_even s one =
          let none = live_below-none no_heap.block s roots (λ root below begins. absurd (let named = begins.named in cc)) in
          let first = live_below-with no_heap.block s roots 1 (slab_block 4 3 0) (omega (arith, many)) refl in
          let second = live_below-with (with_block no_heap 1 (InNewSlab 4 3 0)).block s roots 2 (slab_block 8 6 0) (omega (arith, many)) refl in
          let third = live_below-with (with_block (with_block no_heap 1 (InNewSlab 4 3 0)) 2 (InNewSlab 8 6 0)).block s roots 0 (range_of (Granules 12 4)) (omega (arith, many)) refl in
          omega (arith, none, first, second, third, one)

  -- where their blocks lie, by whether it is in the slab
  in_first : {G : Type 0} (m : Machine) → EachBlock m IsEither → (root : ℕ) (range : Range) → m.block root ≡ Some range → (range.at ≤ 67648 → range.size ≡ 64 → G) → (133120 ≤ range.at → G) → G
  unfolding class_size sizes
  in_first m each root range named here far = ⊎_elim
      (λ is. here (omega (arith, ap (λ (r : Range). r.at) is)) (ap (λ (r : Range). r.size) is))
      (λ more. ⊎_elim
      (λ is. far (omega (arith, ap (λ (r : Range). r.at) is)))
      (λ last. ⊎_elim (λ is. far (omega (arith, ap (λ (r : Range). r.at) is))) (λ is. here (omega (arith, ap (λ (r : Range). r.at) is)) (ap (λ (r : Range). r.size) is)) last)
      more)
      (each.each root range named)

  in_second : {G : Type 0} (m : Machine) → EachBlock m IsEither → (root : ℕ) (range : Range) → m.block root ≡ Some range → (range.at ≡ 133120 → range.size ≡ 112 → G) → (range.at + range.size ≤ 67712 → G) → (196608 ≤ range.at → 0 < range.size → G) → G
  unfolding class_size sizes
  in_second m each root range named here low high = ⊎_elim
      (λ is. low (omega (arith, ap (λ (r : Range). r.at) is, ap (λ (r : Range). r.size) is)))
      (λ more. ⊎_elim
      (λ is. here (ap (λ (r : Range). r.at) is) (ap (λ (r : Range). r.size) is))
      (λ last. ⊎_elim (λ is. high (omega (arith, ap (λ (r : Range). r.at) is)) (omega (arith, ap (λ (r : Range). r.size) is))) (λ is. low (omega (arith, ap (λ (r : Range). r.at) is, ap (λ (r : Range). r.size) is))) last)
      more)
      (each.each root range named)

  -- of a block that lives: it has the class's size where it lies in the slab, and block 1 of class 19 of the slab is apart
  record IsBeside (s d : ℕ) (range : Range) : Type 0 where
    size : LiesIn s range → range.size ≡ class_size d
    apart : AreApart (slab_block s 19 1) range

  -- with two blocks at most, a slab where that is so of all is fit for class 19, that of 1000 bytes
  fit_with : (m : Machine) (s d : ℕ) → m.slab s ≡ Some d → 19 ≢ d → 10 ≤ class_capacity d → 1 < class_capacity 19 → count m s ≤ 2 → EachBlock m (λ root. IsBeside s d) → IsFit (slab_view (view_of b m)) 19 s
  fit_with m s d slab differs holds within few each = record {
    class = d;
    slab = slab;
    no_transition = λ moving.
        let class : moving.class ≡ d = (let is = moving.slab in cc) in
        moving.other ((each.each moving.root moving.range moving.named).size moving.lies ∙ sym (ap class_size class));
    differs = differs;
    few = omega (arith, few);
    sparse = omega (arith, few, holds);
    number = 1;
    block = record { within = within; unused = record { each = λ root range named. (each.each root range named).apart } };
  }

  -- both are fit
  fit_first : (m : Machine) → EachBlock m IsEither → m.slab 4 ≡ Some 3 → count m 4 ≤ 2 → IsFit (slab_view (view_of b m)) 19 4
  unfolding class_size sizes
  fit_first m each slab few = fit_with m 4 3 slab (λ same. omega (arith, same)) (lit≤ tt) (lit< tt) few (record {
    each = λ root range named. in_first m each root range named
        (λ at wide. record { size = λ lies. wide; apart = inr (omega (arith, at, wide)) })
        (λ far. record { size = λ lies. absurd (omega (arith, far, lies.high)); apart = inl (omega (arith, far)) });
  })

  fit_second : (m : Machine) → EachBlock m IsEither → m.slab 8 ≡ Some 6 → count m 8 ≡ 1 → IsFit (slab_view (view_of b m)) 19 8
  unfolding class_size sizes
  fit_second m each slab few = fit_with m 8 6 slab (λ same. omega (arith, same)) (lit≤ tt) (lit< tt) (omega (arith, few)) (record {
    each = λ root range named. in_second m each root range named
        (λ at wide. record { size = λ lies. wide; apart = inr (omega (arith, at, wide)) })
        (λ low. record { size = λ lies. absurd (omega (arith, low, lies.low)); apart = inr (omega (arith, low)) })
        (λ high some. record { size = λ lies. absurd (omega (arith, high, some, lies.high)); apart = inl (omega (arith, high)) });
  })

  -- among equals the lowest is the best, and else the one with the fewest live blocks
  lowest_of_equals : IsBestSlab (slab_view (view_of b even)) 19 4
  lowest_of_equals = record {
    fit = fit_first even each_even refl (omega (arith, counts.0));
    fewest = λ t fit. ⊎_elim (λ here. omega (arith, ap (count even) here)) (λ there. omega (arith, ap (count even) there, counts.0, counts.1)) (slab_either t fit.class fit.slab);
    lowest = λ t fit same. ⊎_elim (λ here. omega (arith, here)) (λ there. omega (arith, there)) (slab_either t fit.class fit.slab);
  }

  fewest_first : IsBestSlab (slab_view (view_of b uneven)) 19 8
  fewest_first = record {
    fit = fit_second uneven each_uneven refl counts.3;
    fewest = λ t fit. ⊎_elim (λ here. omega (arith, ap (count uneven) here, counts.2, counts.3)) (λ there. omega (arith, ap (count uneven) there)) (slab_either t fit.class fit.slab);
    lowest = λ t fit same. ⊎_elim (λ here. absurd (omega (arith, ap (count uneven) here, same, counts.2, counts.3))) (λ there. omega (arith, there)) (slab_either t fit.class fit.slab);
  }

  first_still_fit : IsFit (slab_view (view_of b uneven)) 19 4
  first_still_fit = fit_first uneven each_uneven refl (omega (arith, counts.2))
