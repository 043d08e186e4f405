-- The block of a root of a sound image: where it begins, and how large it is.
use Rattle.std.proofs.Common.{◌≡◌, ◌≢◌, ◌-◌, ◌*◌, ◌/◌, ◌<◌, ◌≤◌, ℕ, List, Some, sym, ap, ◌∙◌, arith, ⊎_elim}
use Rattle.size_classes.proofs.Spacing.{class_size-most}
use Rattle.pool_layout.specs.Header.{granules_in}
use Rattle.image_tables.specs.Tables.{Tables}
use Rattle.heap_check.proofs.Geometry.{is_large-parts}
use Rattle.gc_check.specs.Heap.{address_field, class_field, gc_size, gc_tables}
use Rattle.gc_check.specs.Image.{IsGcSoundImage}
use Rattle.gc_check.proofs.Heaps.{size_large, size_small, gc_heap-some}
use Rattle.gc_check.proofs.RootWords.{whole, in_slab}
use Rattle.heap_map.specs.Blocks.{IsRootBlock}
use Rattle.gc_map.specs.GcRules.{gc_rules}
use Rattle.gc_map.proofs.Slabs.{slab_lies}

module _ (words : List ℕ) (sound : IsGcSoundImage words) (root : ℕ) (some : (gc_tables words).word root ≢ 0) where
  abbrev t : Tables
  t = gc_tables words

  abbrev word : ℕ
  word = t.word root

  lies : (address_field word < 16384 * granules_in words) × (gc_size t.large word ≤ 16384 * granules_in words)
  lies = ⊎_elim
      (λ large.
      let start = address_field word / 16384 in
      let parts = is_large-parts t.large (address_field word) large.1 in
      let size = whole sound.sound start parts.1 in
      let ends = (sound.sound.extents.starts start (omega (arith, size, parts.1))).1 in
      (omega (arith, parts.0, parts.1, size, ends), omega (arith, size_large t.large word large.0, size, ends)))
      (λ small.
      let class = class_field word - 1 in
      let is_class : class < 36 = omega (arith, small.0, (sound.sound.owned.rooted root some).form.class) in
      let inside = in_slab sound.sound is_class small.1 in
      let ends = (slab_lies words sound small.1.start inside.slab).1 in
      (omega (arith, inside.high, ends), omega (arith, size_small t.large word small.0, class_size-most class is_class, ends)))
      (sound.sound.owned.rooted root some).stands

  pub root_block : (at size : ℕ) → at ≡ address_field word → size ≡ gc_size t.large word → IsRootBlock gc_rules words root (record { at = at; size = size })
  root_block at size at_is size_is = record {
    named = gc_heap-some t root some ∙ ap Some (sym (ap (λ a. record { at = a; size = size }) at_is ∙ ap (λ s. record { at = address_field word; size = s }) size_is));
    begins = omega (arith, at_is, lies.0);
    few = omega (arith, size_is, lies.1);
  }
