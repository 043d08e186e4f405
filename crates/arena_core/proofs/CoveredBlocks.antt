-- The blocks that an old block covered are given out again, where nothing else covers them.
use Rattle.std.proofs.Common.{Bool, IsTrue, ◌*◌, ◌/◌, ◌≡◌, ◌≢◌, ◌⊎◌, ◌↔◌, ℕ, ◌+◌, ◌<◌, ◌≤◌, true, false, List, None, refl, sym, ap, subst, ◌∙◌, arith, inl, inr, ⊎_elim}
use Rattle.arena_core.proofs.Common.{cases_lt, granules_in, class_capacity, Tables, tables_of, put_at, put_at-other, class_in, Supply, MayBeGiven, IsWith, Bounds, AreApart, slab_block, slabs, IsUnusedIn, IsSameSlab, IsUnusedIn-same, OldBlock, IsOldDetachable, IsOldDetached, old_range, IsSlabsOf, granule_word, iff_then, unused_apart}
use Rattle.image_tables.specs.Updates.{with_old}
use Rattle.arena_core.proofs.SmallCalls.{of_each, of_each_block}
use Rattle.heap_check.proofs.OldBlock.{Holds-relived, Holds-relived_back}
use Rattle.slab_morph.specs.Overlaps.{IsOverlapRange}
use Rattle.arena_core.specs.Arena.{AreSlabsBut}
use Rattle.arena_core.proofs.HeldBlocks.{old_holds}
use Rattle.image_tables.specs.Tables.{live_rows}

-- the old block went: the set has no block that overlaps it, and of the others those that are unused
pub slabs_old : (words : List ℕ) (line root : ℕ) (block : OldBlock) → IsOldDetachable words root block → (new : List ℕ) → IsOldDetached words line root block new → (set : Supply) → IsSlabsOf set words → AreSlabsBut set new block
slabs_old words line root block may new detached set was =
    let t = tables_of words in
    record {
      granules = was.granules ∙ ap (λ (b : Bounds). b.granules) (sym detached.bounds);
      classes = λ s. was.classes s ∙ sym (ap (λ (x : Tables). slabs x s) detached.tables);
      blocks = subst (λ (x : Tables). (s i : ℕ) → x.slab s ≡ true → i < class_capacity (x.header s).class → (s ≢ block.start) ⊎ AreApart (old_range x block) (slab_block s (x.header s).class i) → MayBeGiven set s i ↔ IsUnusedIn x s (x.header s).class i)
          (sym detached.tables)
          (of_each block.start
          (λ i slab below either. iff_then (was.blocks block.start i slab below)
          (unused_apart (Holds-relived_back t block.start block.place false (put_at t.word root 0) (put_at t.root root 0) None block.start) (Holds-relived t block.start block.place false (put_at t.word root 0) (put_at t.root root 0) None block.start) (t.header block.start).class i (⊎_elim (λ differ. absurd (differ refl)) (λ apart. apart) either)))
          (λ s differ i slab below either. iff_then (was.blocks s i slab below) (IsUnusedIn-same (same_slab s differ) (t.header s).class i)));
      none = subst (λ (x : Tables). (i : ℕ) → i < class_capacity (x.header block.start).class → ¬ (AreApart (old_range x block) (slab_block block.start (x.header block.start).class i)) → ¬ (MayBeGiven set block.start i)) (sym detached.tables)
          (λ i below overlap is. overlap (((was.blocks block.start i may.slab below).0 is).each (old_range t block) (old_holds may)));
    }
  where
    same_slab : (s : ℕ) → s ≢ block.start → IsSameSlab (tables_of words) (with_old (tables_of words) block.start block.place false root 0 None) s
    same_slab s differ = record { slab = refl; header = λ i. record ((tables_of words).header s) { live = put_at-other (live_rows (tables_of words)) block.start s (put_at (live_rows (tables_of words) block.start) block.place false) differ i } }

-- Of the blocks that it covered those below a number are given back, where they are unused.
pub record AreGiven (set : Supply) (words : List ℕ) (start number end : ℕ) : Type 0 where
  pub granules : set.slabs.granules ≡ granules_in words
  pub classes : (s : ℕ) → class_in set.slabs s ≡ slabs (tables_of words) s
  pub done : (s i : ℕ) → (tables_of words).slab s ≡ true → i < class_capacity ((tables_of words).header s).class → ¬ ((s ≡ start) × (number ≤ i) × (i < end)) → MayBeGiven set s i ↔ IsUnusedIn (tables_of words) s ((tables_of words).header s).class i
  pub rest : (i : ℕ) → number ≤ i → i < end → ¬ (MayBeGiven set start i)

-- before the first
pub given_first : {words : List ℕ} {block : OldBlock} {slab from end : ℕ} {set : Supply} → let t = tables_of words in slab ≡ 8 * granule_word block.start →
    IsOverlapRange (t.header (slab / 16384)).old ((t.header (slab / 16384)).number block.place) (t.header (slab / 16384)).class from end → AreSlabsBut set words block → AreGiven set words block.start from end
given_first {words} {block} {slab} {from} {end} at read was =
    let t = tables_of words in
    let range : IsOverlapRange (t.header block.start).old ((t.header block.start).number block.place) (t.header block.start).class from end = grind arith in
    record {
      granules = was.granules;
      classes = was.classes;
      done = of_each block.start
          (λ i slab below outside. was.blocks block.start i slab below (inr (range.outside block.start i below (⊎_elim (λ less. inl less) (λ at. ⊎_elim (λ within. absurd (outside (refl, at, within))) (λ past. inr past) (cases_lt i end)) (cases_lt i from)))))
          (λ s differ i slab below outside. was.blocks s i slab below (inl differ));
      rest = λ i low high. was.none i (omega (arith, high, range.high)) (range.inside block.start i low high);
    }

-- another block of the slab that is not below the number is behind it
later : (s i number start : ℕ) → s ≡ start → number ≤ i → (s ≢ start) ⊎ (i ≢ number) → number + 1 ≤ i
later s i number start same low apart = grind arith

-- whether a block of the slab that was read is unused
pub unused_here : {t : Tables} {slab start number : ℕ} {is : Bool} → slab ≡ 8 * granule_word start → IsTrue is ↔ IsUnusedIn t (slab / 16384) (t.header (slab / 16384)).class number → (is ≡ true → IsUnusedIn t start (t.header start).class number) × (is ≡ false → ¬ (IsUnusedIn t start (t.header start).class number))
unused_here at says = grind arith

-- the next one is unused, and open again
pub given_next : {words : List ℕ} {start number end : ℕ} {set next : Supply} → number < end → IsUnusedIn (tables_of words) start ((tables_of words).header start).class number → IsWith set next start number → AreGiven set words start number end → AreGiven next words start (number + 1) end
given_next {words} {start} {number} {end} {set} {next} below unused came were = record {
  granules = came.granules ∙ were.granules;
  classes = λ s. came.classes s ∙ were.classes s;
  done = of_each_block start number (λ slab among outside. (λ is. unused, λ is. came.here))
      (λ s i apart slab among outside. iff_then (came.others s i apart) (were.done s i slab among (λ within. outside (within.0, later s i number start within.0 within.1 apart, within.2))));
  rest = λ i low high is. were.rest i (omega (arith, low)) high ((came.others start i (inr (λ same. omega (arith, same, low)))).0 is);
}

-- it is not
pub given_none : {words : List ℕ} {start number end : ℕ} {set : Supply} → number < end → ¬ (IsUnusedIn (tables_of words) start ((tables_of words).header start).class number) → AreGiven set words start number end → AreGiven set words start (number + 1) end
given_none {words} {start} {number} {end} {set} below used were = record {
  granules = were.granules;
  classes = were.classes;
  done = of_each_block start number (λ slab among outside. (λ is. absurd (were.rest number (omega arith) below is), λ unused. absurd (used unused)))
      (λ s i apart slab among outside. were.done s i slab among (λ within. outside (within.0, later s i number start within.0 within.1 apart, within.2)));
  rest = λ i low high. were.rest i (omega (arith, low)) high;
}

-- all are seen
pub given_all : {words : List ℕ} {start number end : ℕ} {set : Supply} → end ≤ number → AreGiven set words start number end → IsSlabsOf set words
given_all all were = grind arith
