-- The state of an exact image is free of overlaps.
use Rattle.std.proofs.Common.{◌≡◌, ◌⊎◌, ℕ, ◌-◌, ◌/◌, ◌<◌, ◌≤◌, true, sym, ap, subst, ◌∙◌, arith, inl, inr, ⊎_elim, Some}
use Rattle.std.proofs.lemmas.Bool.{cases_lt, false_from_ne_true}
use Rattle.size_classes.specs.Classes.{class_size}
use Rattle.size_classes.proofs.Spacing.{class_size-most, class_size-least}
use Rattle.image_tables.specs.Tables.{Tables}
use Rattle.image_tables.proofs.Tables.{word_table-past}
use Rattle.heap_model.specs.Machine.{Bounds, Range, Machine, IsBlockOf, IsOverlapFree}
use Rattle.heap_model.proofs.Slabbing.{LiesIn-block}
use Rattle.heap_check.specs.Heap.{slabs, is_large}
use Rattle.heap_check.proofs.Geometry.{is_large-parts}
use Rattle.heap_check.proofs.LargeLogs.{large_many}
use Rattle.heap_check.proofs.OverlapFree.{IsSmall, IsWhole, overlap_free}
use Rattle.gc_check.specs.Heap.{address_field, class_field, gc_block, gc_tables, gc_heap}
use Rattle.gc_check.specs.Sound.{IsClassBlock, IsGcSound}
use Rattle.gc_check.specs.Laws.{LawOfExactGcState}
use Rattle.gc_check.proofs.Heaps.{size_large, size_small, IsNamed-heap}
use Rattle.gc_check.proofs.Tables.{over}

-- sound tables in which each large extent has two granules at least, and only so many roots have a word
module _ {b : Bounds} {t : Tables} (sound : IsGcSound b t) (many : (start : ℕ) → 0 < t.large start → 2 ≤ t.large start) (past : (root : ℕ) → b.roots ≤ root → t.word root ≡ 0) where
  whole_of : (word : ℕ) → class_field word ≡ 0 → is_large t.large (address_field word) ≡ true → IsWhole t (gc_block t.large word)
  whole_of word none large =
      let parts = is_large-parts t.large (address_field word) large in
      let start = address_field word / 16384 in
      record {
        start = start;
        no_slab = false_from_ne_true (t.slab start) (λ slab. omega (arith, parts.1, sound.extents.one_kind start slab));
        many = many start parts.1;
        at = parts.0;
        size = size_large t.large word none;
      }

  small_of : (word : ℕ) → 0 < class_field word → class_field word ≤ 36 → IsClassBlock t.slab (class_field word - 1) (address_field word) → IsSmall t (gc_block t.large word)
  small_of word some few block =
      let class = class_field word - 1 in
      let size = size_small t.large word some in
      let range : Range = record { at = address_field word; size = class_size class } in
      let is : IsBlockOf block.start class range = record { number = block.number; within = block.below; is = ap (λ (at : ℕ). record { at = at; size = class_size class }) block.is } in
      let lies = LiesIn-block block.start class range is in
      record {
        start = block.start;
        slab = block.slab;
        lies = record { low = lies.low; high = omega (arith, lies.high, size) };
        some = omega (arith, size, class_size-least class (omega (arith, some, few)));
        size = omega (arith, size, class_size-most class (omega (arith, some, few)));
      }

  -- each block is one of these two
  block_kinds : (root : ℕ) (range : Range) → gc_heap t root ≡ Some range → IsSmall t range ⊎ IsWhole t range
  block_kinds root range block =
      let is = IsNamed-heap t root range block in
      let word = t.word root in
      let stands = sound.owned.rooted root is.some in
      subst (λ (r : Range). IsSmall t r ⊎ IsWhole t r) (sym is.is) (⊎_elim
      (λ large. inr (whole_of word large.0 large.1))
      (λ small. inl (small_of word small.0 stands.form.class small.1))
      stands.stands)

  module _ (m : Machine) (blocks : (root : ℕ) → gc_heap t root ≡ m.block root) (classes : (start : ℕ) → slabs t start ≡ m.slab start) where
    IsOverlapFree-sound : IsOverlapFree b m
    IsOverlapFree-sound = overlap_free b t sound.extents m classes (λ root range block. block_kinds root range (blocks root ∙ block))
        (λ root range block. ⊎_elim
        (λ below. below)
        (λ (beyond : b.roots ≤ root). absurd ((IsNamed-heap t root range (blocks root ∙ block)).some (past root beyond)))
        (cases_lt root b.roots))
        (λ root other range another differ first second. sound.owned.apart root other range another differ (blocks root ∙ first) (blocks other ∙ second))

pub law_of_exact_gc_state : LawOfExactGcState
law_of_exact_gc_state words m image state =
    let t = gc_tables words in
    let is = over words in
    IsOverlapFree-sound image.exact.sound
    (λ start some. omega (arith, ap (λ large. large start) is.large, large_many words start (omega arith) image.formed.log (omega (arith, ap (λ large. large start) is.large, some))))
    (λ root beyond. ap (λ word. word root) is.word ∙ word_table-past words root beyond)
    m state.blocks state.slabs
