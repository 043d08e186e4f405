-- Which slab has an address, and which events a call has by where its block lies.
use Rattle.std.proofs.Common.{◌≡◌, ◌≢◌, ◌==◌, ◌&&◌, ℕ, ◌+◌, ◌-◌, ◌*◌, ◌/◌, ◌<◌, ◌≤◌, Bool, true, false, true≢false, cond, leb, List, ◌++◌, not, refl, sym, ap, ◌∙◌, arith}
use Rattle.std.proofs.lemmas.Bool.{eq-eqb, ne_eqb, lt-leb, le-leb, lt-ltb, leb-true, ltb-true, and_parts, and_from, false_from_ne_true}
use Rattle.size_classes.specs.Classes.{class_size}
use Rattle.size_classes.proofs.Spacing.{class_size-most, class_size-rises}
use Rattle.image_tables.specs.Tables.{Tables}
use Rattle.log_steps.proofs.Entries.{first_zero-is}
use Rattle.heap_model.specs.Machine.{Bounds, slab_block}
use Rattle.heap_model.specs.Slabs.{is_within}
use Rattle.heap_model.proofs.Below.{any_below-true, any_below-some}
use Rattle.heap_check.specs.Heap.{slab_of}
use Rattle.heap_check.specs.Image.{bounds_of}
use Rattle.heap_check.specs.Sound.{Covers, IsVacant, IsInSlab, HasOther}
use Rattle.heap_check.proofs.Geometry.{Covers-slab, slab_of-extents}
use Rattle.arena_core.specs.Events.{is_small, class_for, start_at}
use Rattle.gc_check.specs.Heap.{small_word, gc_tables}
use Rattle.gc_check.specs.Sound.{IsGcSound}
use Rattle.gc_steps.specs.Roots.{root_events}
use Rattle.gc_steps.specs.Slabs.{class_events}
use Rattle.gc_steps.specs.Extents.{slab_events, large_events}
use Rattle.gc_heap.specs.Events.{has_other, placed_events, gone_events, freed_events}

-- the slab that has a granule
pub slab_is : {b : Bounds} {t : Tables} → IsGcSound b t → (start k : ℕ) → t.slab start ≡ true → start ≤ k → k < start + 4 → slab_of t.slab k ≡ start
slab_is {b} {t} sound = slab_of-extents t sound.extents

-- no slab has a vacant granule
pub vacant_none : {b : Bounds} (t : Tables) (start : ℕ) → 3 ≤ start → IsVacant b t start → t.slab (slab_of t.slab start) ≡ false
unfolding slab_of
vacant_none {b} t start high vacant = grind arith

-- sizes

-- that of a class is small
pub small_class : (class : ℕ) → class < 36 → is_small (class_size class) ≡ true
small_class class is_class = grind (arith, class_size-most)

-- a class is the least that holds its size
pub class_is : (class : ℕ) → class < 36 → class_for (class_size class) ≡ class
class_is class is_class = first_zero-is (λ k. cond (leb (class_size class) (class_size k)) 0 1) 36 class is_class (grind arith) (λ earlier before. grind (arith, class_size-rises))

-- malloc

module _ (words : List ℕ) (root : ℕ) where
  -- whole granules
  pub placed_large : (start granules : ℕ) → 2 ≤ granules → (large_events words start granules ++ root_events root (16384 * start)) ≡ placed_events words root (16384 * start) (16384 * granules)
  placed_large start granules many = grind (arith, lt-leb)

  module _ (start class number : ℕ) (few : class < 36) where
    abbrev t : Tables
    t = gc_tables words

    abbrev at : ℕ
    at = (slab_block start class number).at

    -- a block of a slab that has the class
    pub placed_there : start_at t at ≡ start → t.slab start ≡ true → (t.header start).class ≡ class → root_events root (small_word at class) ≡ placed_events words root at (class_size class)
    placed_there here slab same = grind (arith, class_is, small_class)

    -- of one that takes it
    pub placed_morph : start_at t at ≡ start → t.slab start ≡ true → (t.header start).class ≢ class → (class_events start class ++ root_events root (small_word at class)) ≡ placed_events words root at (class_size class)
    placed_morph here slab other = grind (arith, ne_eqb, class_is, small_class)

  -- the first block of one that is made
  pub placed_new : (b : Bounds) (start class : ℕ) → class < 36 → 3 ≤ start → IsVacant b (gc_tables words) start →
      (slab_events words start class ++ root_events root (small_word (slab_block start class 0).at class)) ≡ placed_events words root (slab_block start class 0).at (class_size class)
  placed_new b start class few high vacant =
      let granule : (slab_block start class 0).at / 16384 ≡ start = omega arith in
      grind (arith, small_class, class_is, vacant_none (gc_tables words) start high vacant)

-- free

module _ (words : List ℕ) (root : ℕ) where
  abbrev other_test : ℕ → ℕ → Bool
  other_test start other = not (other == root) && (not ((gc_tables words).root other == 0) && is_within start ((gc_tables words).root other))

  -- another root has a block in the slab
  pub has_other-some : (start : ℕ) (is : HasOther (gc_tables words) root start) → is.other < (bounds_of words).roots → has_other words root start ≡ true
  has_other-some start is below =
      any_below-true (other_test start) (bounds_of words).roots is.other below
      (and_from _ _ (ap not (ne_eqb is.other root is.differ)) (and_from _ _ (ap not (ne_eqb ((gc_tables words).root is.other) 0 is.some))
      (and_from _ _ (le-leb (16384 * start) ((gc_tables words).root is.other) is.inside.low) (lt-ltb ((gc_tables words).root is.other) (16384 * start + 65536) is.inside.high))))

  -- none has
  pub has_other-none : (start : ℕ) → (gc_tables words).slab start ≡ true → ((r : ℕ) → r ≢ root → (gc_tables words).root r ≢ 0 → ¬ (IsInSlab (gc_tables words) start ((gc_tables words).root r))) → has_other words root start ≡ false
  has_other-none start slab none = false_from_ne_true (has_other words root start) (λ some.
      let there = any_below-some (other_test start) (bounds_of words).roots some in
      let r = there.0 in
      let held = (gc_tables words).root r in
      let outer = and_parts (not (r == root)) (not (held == 0) && is_within start held) there.2 in
      let inner = and_parts (not (held == 0)) (is_within start held) outer.1 in
      let within = and_parts _ _ inner.1 in
      none r (λ same. true≢false (sym outer.0 ∙ ap not (eq-eqb r root same))) (λ zero_word. true≢false (sym inner.0 ∙ ap not (eq-eqb held 0 zero_word)))
      (record { slab = slab; low = leb-true (16384 * start) held within.0; high = ltb-true held (16384 * start + 65536) within.1 }))

  -- a block of a slab, which stays
  pub freed_block : (start at size : ℕ) → size ≤ 16384 → start_at (gc_tables words) at ≡ start → has_other words root start ≡ true → root_events root 0 ≡ freed_events words root at size
  freed_block start at size small here other = grind (arith, le-leb)

  -- or goes with it
  pub freed_last : (start at size : ℕ) → size ≤ 16384 → start_at (gc_tables words) at ≡ start → has_other words root start ≡ false → gone_events words root start ≡ freed_events words root at size
  freed_last start at size small here other = grind (arith, le-leb)

  -- whole granules
  pub freed_large : (start at size : ℕ) → 16384 < size → at ≡ 16384 * start → gone_events words root start ≡ freed_events words root at size
  freed_large start at size large is =
      let granule : at / 16384 ≡ start = omega (arith, is) in
      grind (arith, lt-leb)
