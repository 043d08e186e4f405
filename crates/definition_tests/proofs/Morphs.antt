-- Worked rows of slabs that take a class. An arena of 16 granules has a large block on granules 4 to 11, and a slab of
-- class d at granule 12 with its first n + 1 blocks, so no granule is free.
use Rattle.std.proofs.Common.{◌≡◌, ◌≢◌, ◌⊎◌, ◌<◌, ◌≤◌, ◌+◌, ◌*◌, ℕ, zero, suc, Option, Some, None, true, false, refl, sym, ap, ◌∙◌, arith, subst, inl, inr, ⊎_elim}
use Rattle.std.proofs.lemmas.Bool.{cases_lt}
use native.Mathlib.Nat.{mul-le-mul_right}
use Rattle.size_classes.specs.Classes.{class_size, class_capacity, IsClassOf}
use Rattle.heap_model.specs.Machine.{Bounds, Range, Machine, no_heap, with_key, slab_block, LiesIn, AreApart, IsUnused, IsFreeGranule}
use Rattle.heap_model.specs.Choice.{IsUnusedBlock, HasUnusedBlock, range_of, IsSite, HasNoSite, block_view}
use Rattle.heap_model.specs.Choice.Site.{Granules, InSlab, InMorph, InNewSlab}
use Rattle.heap_model.specs.Slabs.{live_below, begins_in, IsInTransition, view_of}
use Rattle.heap_model.specs.Step.{with_block}
use Rattle.heap_model.proofs.Maps.{with_key-other, with_key-cases}
use Rattle.heap_model.proofs.Slabbing.{LiesIn-block}
use Rattle.heap_model.proofs.Freeing.{begins_in-here, live_below-none}
use Rattle.heap_model.proofs.Counts.{live_below-with, EachBlock, EachBlock-none, EachBlock-with}

abbrev pub small : ℕ → Bounds
small roots = record { roots = roots; first = 4; granules = 16 }

-- root 0 has the large block, and root i + 1 block i of the slab
abbrev pub filled : ℕ → ℕ → Machine
filled d zero = with_block (with_block no_heap 0 (Granules 4 8)) 1 (InNewSlab 12 d 0)
filled d (suc n) = with_block (filled d n) (n + 2) (InSlab 12 d (n + 1))

-- what a root names there
abbrev pub IsFilled : ℕ → ℕ → ℕ → Range → Type 0
IsFilled d n root range = ((root ≡ 0) × (range ≡ range_of (Granules 4 8))) ⊎ ((i : ℕ) × (i ≤ n) × (root ≡ i + 1) × (range ≡ slab_block 12 d i))

more_filled : (d n root : ℕ) (range : Range) → IsFilled d n root range → IsFilled d (suc n) root range
more_filled d n root range is = ⊎_elim (λ large. inl large) (λ block. inr (block.0, omega (arith, block.1), block.2, block.3)) is

pub each_filled : (d n : ℕ) → EachBlock (filled d n) (IsFilled d n)
each_filled d zero =
    EachBlock-with (with_block no_heap 0 (Granules 4 8)) (IsFilled d 0) 1 (InNewSlab 12 d 0)
    (EachBlock-with no_heap (IsFilled d 0) 0 (Granules 4 8) (EachBlock-none (IsFilled d 0)) (inl (refl, refl)))
    (inr (0, omega arith, refl, refl))
each_filled d (suc n) =
    EachBlock-with (filled d n) (IsFilled d (suc n)) (n + 2) (InSlab 12 d (n + 1)) (record { each = λ root range named. more_filled d n root range ((each_filled d n).each root range named) })
    (inr (n + 1, omega arith, omega arith, refl))

slab_filled : (d n : ℕ) → (filled d n).slab ≡ with_key (λ _. None) 12 (Some d)
slab_filled d zero = refl
slab_filled d (suc n) = slab_filled d n

-- a slab there is that one
pub one_slab : (d n s c : ℕ) → (filled d n).slab s ≡ Some c → (s ≡ 12) × (d ≡ c)
one_slab d n s c slab = ⊎_elim
    (λ here. (here.0, let is = here.1 in cc))
    (λ there. absurd (let none = there.1 in cc))
    (with_key-cases (λ _. None) 12 s (Some d) (Some c) (ap (λ (row : ℕ → Option ℕ). row s) (sym (slab_filled d n)) ∙ slab))

-- root 0 has the large block
large_filled : (d n : ℕ) → (filled d n).block 0 ≡ Some (range_of (Granules 4 8))
large_filled d zero = refl
large_filled d (suc n) = with_key-other (filled d n).block (n + 2) 0 (Some (slab_block 12 d (n + 1))) (λ same. omega (arith, same)) ∙ large_filled d n

-- a root above those names nothing
pub none_filled : (d n root : ℕ) → n + 1 < root → (filled d n).block root ≡ None
none_filled d n root past = go ((filled d n).block root) (λ range named. ⊎_elim (λ large. omega (arith, large.0, past)) (λ block. omega (arith, block.1, block.2, past)) ((each_filled d n).each root range named))
  where
    go : (block : Option Range) → ((range : Range) → block ≡ Some range → ⊥) → block ≡ None
    go None none = refl
    go (Some range) none = absurd (none range refl)

-- blocks of the slab lie in it
lies_in : (d i : ℕ) → i < class_capacity d → LiesIn 12 (slab_block 12 d i)
lies_in d i within = LiesIn-block 12 d (slab_block 12 d i) (record { number = i; within = within; is = refl })

counted : (d i : ℕ) → 0 < class_size d → i < class_capacity d → begins_in 12 (Some (slab_block 12 d i)) ≡ true
counted d i some within = let lies = lies_in d i within in begins_in-here 12 (slab_block 12 d i) lies.low (omega (arith, lies.high, some))

live_filled : (roots d n : ℕ) → 0 < class_size d → n < class_capacity d → n + 1 < roots → live_below (filled d n).block 12 roots ≡ n + 1
live_filled roots d zero some within few =
    let large : begins_in 12 (Some (range_of (Granules 4 8))) ≡ false = refl in
    let first = live_below-with no_heap.block 12 roots 0 (range_of (Granules 4 8)) (omega (arith, few)) refl in
    let second = live_below-with (with_block no_heap 0 (Granules 4 8)).block 12 roots 1 (slab_block 12 d 0) (omega (arith, few)) refl in
    second ∙ rw (counted d 0 some within) (omega (arith, first, live_below-none no_heap.block 12 roots (λ root below begins. let named = begins.named in cc)))
live_filled roots d (suc n) some within few =
    live_below-with (filled d n).block 12 roots (n + 2) (slab_block 12 d (n + 1)) (omega (arith, few)) (none_filled d n (n + 2) (omega arith))
    ∙ rw (counted d (n + 1) some (omega (arith, within))) (omega (arith, live_filled roots d n some (omega (arith, within)) (omega (arith, few))))

-- a block behind those of the slab is unused
pub unused_behind : (d n c j : ℕ) → (n + 1) * class_size d ≤ j * class_size c → IsUnused (filled d n) (slab_block 12 c j)
unused_behind d n c j behind = record {
  each = λ root range named. ⊎_elim
      (λ large. subst (AreApart (slab_block 12 c j)) (sym large.1) (inr (omega arith)))
      (λ block.
      let i = block.0 in
      let row : (i + 1) * class_size d ≤ (n + 1) * class_size d = mul-le-mul_right (class_size d) (omega (arith, block.1)) in
      let end : (i + 1) * class_size d ≡ i * class_size d + class_size d = omega arith in
      subst (AreApart (slab_block 12 c j)) (sym block.3) (inr (omega (arith, row, end, behind))))
      ((each_filled d n).each root range named);
}

module _ (roots d n : ℕ) (some : 0 < class_size d) (within : n < class_capacity d) (few : n + 1 < roots) where
  -- the slab is not in transition
  no_transition : ¬ (IsInTransition (filled d n) 12)
  no_transition moving =
      let same = (one_slab d n 12 moving.class moving.slab).1 in
      ⊎_elim
      (λ large. let at = ap (λ (r : Range). r.at) large.1 in omega (arith, moving.lies.low, at))
      (λ block. moving.other (ap (λ (r : Range). r.size) block.3 ∙ ap class_size same))
      ((each_filled d n).each moving.root moving.range moving.named)

  live : live_below (filled d n).block 12 roots ≡ n + 1
  live = live_filled roots d n some within few

  not_full : (c : ℕ) → c ≢ d → ¬ (HasUnusedBlock (block_view (view_of (small roots) (filled d n))) c)
  not_full c differ has = differ (sym (one_slab d n has.start c has.slab).1)

  -- at most 64 blocks, and at most a fifth of the capacity: the slab takes the class
  pub takes_class : (c j size : ℕ) → n + 1 ≤ 64 → 5 * (n + 1) ≤ class_capacity d → c ≢ d → IsClassOf size c → j < class_capacity c → (n + 1) * class_size d ≤ j * class_size c →
      IsSite (view_of (small roots) (filled d n)) size (InMorph 12 c j)
  takes_class c j size most fifth differ least inside behind =
      let block : IsUnusedBlock (block_view (view_of (small roots) (filled d n))) 12 c j = record { within = inside; unused = unused_behind d n c j behind } in
      record {
        least = least;
        full = not_full c differ;
        best = record {
          fit = record {
            class = d;
            slab = ap (λ (row : ℕ → Option ℕ). row 12) (slab_filled d n);
            no_transition = no_transition;
            differs = differ;
            few = omega (arith, live, most);
            sparse = omega (arith, live, fifth);
            number = j;
            block = block;
          };
          fewest = λ t fit. let here = (one_slab d n t fit.class fit.slab).0 in rw here (omega arith);
          lowest = λ t fit same. omega (arith, (one_slab d n t fit.class fit.slab).0);
        };
        block = block;
      }

  -- one above either bound: it does not, and there is no space
  pub takes_none : (c size : ℕ) → (64 < n + 1) ⊎ (class_capacity d < 5 * (n + 1)) → c ≢ d → IsClassOf size c → HasNoSite (view_of (small roots) (filled d n)) size
  takes_none c size above differ least = inl (record {
    class = c;
    least = least;
    full = not_full c differ;
    no_fit = record {
      none = λ s fit.
          let is = one_slab d n s fit.class fit.slab in
          let here : live_below (filled d n).block s roots ≡ n + 1 = ap (λ k. live_below (filled d n).block k roots) is.0 ∙ live in
          let held = ap class_capacity is.1 in
          ⊎_elim (λ x. omega (arith, x, here, fit.few)) (λ x. omega (arith, x, here, held, fit.sparse)) above;
    };
    no_run = record { none = λ start long run. absurd (none_free start (run.row.each start (omega arith) (omega (arith, run.some)))) };
  })
    where
      none_free : (k : ℕ) → ¬ (IsFreeGranule (small roots) (filled d n) k)
      none_free k free = ⊎_elim
          (λ (low : k < 12). free.no_block 0 (range_of (Granules 4 8)) (large_filled d n) (omega arith) (record { begins = omega (arith, free.low); ends = omega (arith, low) }))
          (λ (high : 12 ≤ k). ⊎_elim (λ x. omega (arith, x, high)) (λ x. omega (arith, x, free.high)) (free.no_slab 12 d (ap (λ (row : ℕ → Option ℕ). row 12) (slab_filled d n))))
          (cases_lt k 12)
