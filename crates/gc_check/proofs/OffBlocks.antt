-- Words that differ within the block of a root alone: the image has the same roots, extents and classes, and is exact.
use Rattle.std.proofs.Common.{◌≡◌, ℕ, ◌*◌, ◌<◌, true, cond, List, Some, None, refl, sym, ap, subst, ◌∙◌, arith}
use Rattle.pmem_lines.specs.Words.{word_at}
use Rattle.pool_layout.specs.Places.{text_word, root_word, entry_slot, heap_word}
use Rattle.pool_layout.specs.Header.{header_word, fields_of, version_field, version_in, granules_in, granules_field, IsGcPoolHeader}
use Rattle.image_tables.specs.Tables.{Tables, root_in, open_entry_in, large_of, is_slab_of, is_slab, state_word, slab_header, tables_of}
use Rattle.image_tables.specs.Extents.{extent_at}
use Rattle.image_tables.proofs.Extents.{extent_at-same}
use Rattle.image_tables.proofs.Logs.{SameLog, same_log}
use Rattle.image_tables.proofs.Places.{log_start-low, entry_slot-high}
use Rattle.image_tables.proofs.Stores.{roots-same, root_word-low, log_start-high, state_field-same, tables_by}
use Rattle.book_log.specs.Book.{HasLog}
use Rattle.book_log.proofs.Books.{HasLog-same}
use Rattle.heap_model.specs.Machine.{Range}
use Rattle.heap_check.specs.Heap.{slabs}
use Rattle.heap_check.specs.Image.{bounds_of}
use Rattle.heap_check.proofs.Forms.{bounds_of-same}
use Rattle.heap_check.proofs.OffBlocks.{IsSameOffBlock}
use Rattle.gc_check.specs.Heap.{address_field, gc_tables, gc_heap}
use Rattle.gc_check.specs.Sound.{IsGcExact}
use Rattle.gc_check.specs.Image.{IsNormalWord, IsGcFormed, IsGcExactImage}
use Rattle.gc_check.specs.State.{gc_blocks, gc_slabs, HaveSameGcHeap}
use Rattle.gc_check.proofs.Forms.{is_slab-in, class_in}
use Rattle.gc_check.proofs.RootWords.{block_low, block_off_state, IsGcExact-class}

module _ {words new : List ℕ} {range : Range} (image : IsGcExactImage words) (root : ℕ) (named : gc_blocks words root ≡ Some range) (same : IsSameOffBlock words new range) where
  abbrev t : Tables
  t = gc_tables words

  -- a word before the heap
  low : (k : ℕ) → k < heap_word (version_in words) → word_at new k ≡ word_at words k
  low k before = same.others k (λ within. omega (arith, block_low image.exact.sound root range named, within.low, before))

  lowest : (k : ℕ) → k < 2048 → word_at new k ≡ word_at words k
  lowest k before = low k (omega (arith, before, log_start-low (version_in words), log_start-high (version_in words)))

  pub log_kept : SameLog words new
  log_kept = same_log words new (λ k before. lowest k (omega (arith, before))) (λ c e few below. low (entry_slot (version_in words) c e) (entry_slot-high (version_in words) c e few below))

  slab : (start : ℕ) → is_slab new start ≡ is_slab words start
  slab start = ap is_slab_of (extent_at-same words new start log_kept)

  -- the state word of a slab
  state : (start : ℕ) → is_slab words start ≡ true → word_at new (state_word start) ≡ word_at words (state_word start)
  state start is = same.others (state_word start) (λ within. block_off_state image.exact.sound root start (state_word start) range named (is_slab-in words start is) within (omega arith))

  -- the headers of slabs alone may be others
  tables : gc_tables new ≡ record (gc_tables words) { header = slab_header new }
  unfolding gc_tables tables_of
  tables =
      ap (λ (t : Tables). record t { root = λ r. address_field (t.word r); open_entry = None })
      (tables_by words new (root_in words) (open_entry_in new) (λ s. large_of (extent_at words s)) (slab_header new) slab
      (roots-same words new (ap version_field log_kept.fields) (λ r below. low (root_word r) (omega (arith, root_word-low (version_in words) r below, log_start-high (version_in words)))))
      refl
      (λ s. ap large_of (extent_at-same words new s log_kept))
      (λ s. refl))

  pub bounds_kept : bounds_of new ≡ bounds_of words
  bounds_kept = bounds_of-same words new log_kept.fields

  class_same : (start : ℕ) → (slab_header new start).class ≡ (t.header start).class
  class_same start = state_field-same words new start 8 (slab start) (state start) ∙ sym (class_in words start)

  formed : IsGcFormed new
  formed =
      let fields = log_kept.fields in
      let was = image.formed in
      record {
        header = record {
          whole = omega (arith, same.same_length, was.header.whole);
          text = lowest text_word (omega arith) ∙ was.header.text;
          word = fields ∙ was.header.word ∙ sym (ap (λ w. header_word (fields_of w)) fields);
          valid = subst (λ w. IsGcPoolHeader (fields_of w)) (sym fields) was.header.valid;
        };
        size = same.same_length ∙ was.size ∙ sym (ap (λ w. 2048 * granules_field w) fields);
        log = subst (λ granules. HasLog granules new) (sym (ap granules_field fields)) (HasLog-same (granules_in words) words new log_kept was.log);
        slabs = λ start is. let there = sym (slab start) ∙ is in subst IsNormalWord (sym (state start there)) (was.slabs start there);
      }

  -- so the image is exact, with the same heap and the same slabs

  pub exact_kept : IsGcExactImage new
  exact_kept = record {
    formed = formed;
    exact = subst (λ b. IsGcExact b (gc_tables new)) (sym bounds_kept)
        (subst (IsGcExact (bounds_of words)) (sym tables) (IsGcExact-class (slab_header new) image.exact (λ start is. omega (arith, class_same start, image.exact.sound.classes start is))));
  }

  pub heap_kept : HaveSameGcHeap words new
  heap_kept = record { each = λ r. ap (λ (x : Tables). gc_heap x r) tables }

  pub slabs_kept : (start : ℕ) → gc_slabs new start ≡ gc_slabs words start
  slabs_kept start = ap (λ (x : Tables). slabs x start) tables ∙ ap (λ c. cond (t.slab start) (Some c) None) (class_same start)

  pub held_kept : (r : ℕ) → (gc_tables new).root r ≡ (gc_tables words).root r
  held_kept r = ap (λ (x : Tables). x.root r) tables
