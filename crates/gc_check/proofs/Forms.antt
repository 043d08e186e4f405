-- The form of an image, and what its tables say, after a store outside the log: to a root's word, or to the state word of a slab.
use Rattle.std.proofs.Common.{◌≡◌, ◌≢◌, ℕ, ◌*◌, ◌<◌, true, List, length, refl, sym, ap, subst, ◌∙◌, arith, inr, ⊎_elim, None}
use Rattle.std.proofs.lemmas.Bool.{cases_eq}
use Rattle.pmem_lines.specs.Words.{word_at, put_word}
use Rattle.pmem_lines.proofs.Words.{word_at-put_same, word_at-put_other, length-put_word}
use Rattle.pool_layout.specs.Places.{text_word, fields_word, root_word}
use Rattle.pool_layout.specs.Header.{header_word, fields_of, version_in, granules_in, granules_field, version_field, IsGcPoolHeader}
use Rattle.image_tables.specs.Extents.{extent_at}
use Rattle.image_tables.specs.Tables.{Tables, is_slab, is_slab_of, large_of, AreSlabsInHeap, root_in, open_entry_in, slab_header, state_word, state_field, tables_of}
use Rattle.image_tables.proofs.Logs.{IsOffLog, SameLog-elsewhere}
use Rattle.image_tables.proofs.Extents.{extent_at-elsewhere}
use Rattle.image_tables.proofs.Places.{log_start-low}
use Rattle.image_tables.proofs.Stores.{IsOffLog-root, root_word-low, log_start-high, state_word-high, heap_word-put_root, roots-same, tables_store_root, tables_by}
use Rattle.book_log.specs.Book.{HasLog}
use Rattle.book_log.proofs.Books.{HasLog-same}
use Rattle.heap_check.specs.Image.{bounds_of}
use Rattle.heap_check.specs.Sound.{AreExtents}
use Rattle.heap_check.proofs.Geometry.{granules_at-slab}
use Rattle.gc_check.specs.Heap.{address_field, gc_tables}
use Rattle.gc_check.specs.Image.{IsNormalWord, IsGcFormed}
use Rattle.gc_check.proofs.RootWords.{with_word}

-- slabs lie in the heap
pub slabs_high : (words : List ℕ) → AreExtents (bounds_of words) (gc_tables words).large (gc_tables words).slab → AreSlabsInHeap words
unfolding gc_tables tables_of
slabs_high words extents = record { low = λ start is. (extents.starts start (omega (arith, granules_at-slab (gc_tables words) start is))).0 }

-- the tables have a slab where the words do, of the class that its state word says

pub is_slab-in : (words : List ℕ) (start : ℕ) → is_slab words start ≡ true → (gc_tables words).slab start ≡ true
unfolding gc_tables tables_of
is_slab-in words start is = is

pub class_in : (words : List ℕ) (start : ℕ) → ((gc_tables words).header start).class ≡ state_field words start 8
unfolding gc_tables tables_of
class_in words start = refl

-- a store to a word that is none of the log's, nor the text
module _ (words : List ℕ) (k value : ℕ) (off : IsOffLog words k) where
  abbrev new : List ℕ
  new = put_word words k value

  pub fields_same : word_at new fields_word ≡ word_at words fields_word
  fields_same = word_at-put_other words k fields_word value (λ e. off.fields (sym e))

  pub is_slab_same : (start : ℕ) → is_slab new start ≡ is_slab words start
  is_slab_same start = ap is_slab_of (extent_at-elsewhere words k value start off)

  pub IsGcFormed-put : text_word ≢ k → IsGcFormed words → ((start : ℕ) → is_slab words start ≡ true → IsNormalWord (word_at new (state_word start))) → IsGcFormed new
  IsGcFormed-put no_text formed states =
      let header = formed.header in
      record {
        header = record {
          whole = omega (arith, length-put_word words k value, header.whole);
          text = word_at-put_other words k text_word value no_text ∙ header.text;
          word = fields_same ∙ header.word ∙ sym (ap (λ w. header_word (fields_of w)) fields_same);
          valid = subst (λ w. IsGcPoolHeader (fields_of w)) (sym fields_same) header.valid;
        };
        size = length-put_word words k value ∙ formed.size ∙ sym (ap (λ w. 2048 * granules_field w) fields_same);
        log = subst (λ granules. HasLog granules new) (sym (ap granules_field fields_same)) (HasLog-same (granules_in words) words new (SameLog-elsewhere words k value off) formed.log);
        slabs = λ start is. states start (sym (is_slab_same start) ∙ is);
      }

-- a root's word

pub IsGcFormed-put_root : (words : List ℕ) (root value : ℕ) → root < (bounds_of words).roots → AreSlabsInHeap words → IsGcFormed words → IsGcFormed (put_word words (root_word root) value)
IsGcFormed-put_root words root value below slabs formed =
    IsGcFormed-put words (root_word root) value (IsOffLog-root words root below) (λ e. omega arith) formed
    (λ start is. subst IsNormalWord (sym (heap_word-put_root words root value (state_word start) below (state_word-high words start slabs is))) (formed.slabs start is))

pub gc_tables-put_root : (words : List ℕ) (root value : ℕ) → root < (bounds_of words).roots → root_word root < length words → AreSlabsInHeap words → gc_tables (put_word words (root_word root) value) ≡ with_word (gc_tables words) root value
unfolding gc_tables
gc_tables-put_root words root value below inside slabs =
    ap (λ (t : Tables). record t { root = λ r. address_field (t.word r); open_entry = None }) (tables_store_root words root value below inside slabs)

-- a slab's state word

pub IsOffLog-state : (words : List ℕ) (start : ℕ) → AreSlabsInHeap words → is_slab words start ≡ true → IsOffLog words (state_word start)
IsOffLog-state words start slabs is =
    let high = state_word-high words start slabs is in
    let low = log_start-low (version_in words) in
    let behind = log_start-high (version_in words) in
    record { fields = λ e. omega (arith, e, high, low, behind); directory = λ e. omega (arith, e, high, low, behind); place = inr high }

pub IsGcFormed-put_state : (words : List ℕ) (start value : ℕ) → AreSlabsInHeap words → is_slab words start ≡ true → state_word start < length words → IsNormalWord value → IsGcFormed words → IsGcFormed (put_word words (state_word start) value)
IsGcFormed-put_state words start value slabs is inside normal formed =
    let high = state_word-high words start slabs is in
    IsGcFormed-put words (state_word start) value (IsOffLog-state words start slabs is)
    (λ e. omega (arith, e, high, log_start-low (version_in words), log_start-high (version_in words))) formed
    (λ other here. ⊎_elim
    (λ (same : other ≡ start). subst IsNormalWord (sym (word_at-put_same words (state_word start) (state_word other) value (ap state_word (sym same)) inside)) normal)
    (λ (differ : other ≢ start). subst IsNormalWord (sym (word_at-put_other words (state_word start) (state_word other) value (λ e. differ (omega (arith, e))))) (formed.slabs other here))
    (cases_eq other start))

-- the headers of slabs alone are others
pub gc_tables-put_state : (words : List ℕ) (start value : ℕ) → AreSlabsInHeap words → is_slab words start ≡ true →
    gc_tables (put_word words (state_word start) value) ≡ record (gc_tables words) { header = slab_header (put_word words (state_word start) value) }
unfolding gc_tables tables_of
gc_tables-put_state words start value slabs is =
    let new = put_word words (state_word start) value in
    let off = IsOffLog-state words start slabs is in
    let high = state_word-high words start slabs is in
    ap (λ (t : Tables). record t { root = λ r. address_field (t.word r); open_entry = None })
    (tables_by words new (root_in words) (open_entry_in new) (λ s. large_of (extent_at words s)) (slab_header new)
    (is_slab_same words (state_word start) value off)
    (roots-same words new (ap version_field (fields_same words (state_word start) value off))
    (λ root below. word_at-put_other words (state_word start) (root_word root) value (λ e. omega (arith, e, high, root_word-low (version_in words) root below, log_start-high (version_in words)))))
    refl
    (λ s. ap large_of (extent_at-elsewhere words (state_word start) value s off))
    (λ s. refl))
