-- What an arena keeps holds again once a block was given or taken.
use Rattle.std.proofs.Common.{◌≡◌, ◌↔◌, ◌⊎◌, ℕ, ◌+◌, ◌<◌, ◌≤◌, List, sym, ap, subst, ◌∙◌, inl, inr, ⊎_elim, arith, length}
use Rattle.arena_core.proofs.Common.{put_word, layout_of, root_word, SameLog, version_in, granules_in, Tables, tables_of, Book, FreeSet, IsFree, Bounds, IsVacant, granules_at, bounds_of, with_large, IsBookOf, class_capacity, Supply, IsIndexOf, IsSlabsOf, KeepsSlabs, IsUnusedIn, IsUnusedIn-same, IsStageOf, iff_then}
use Rattle.image_tables.proofs.Stores.{IsOffLog-root, granules_in-put_root}
use Rattle.book_log.proofs.Books.{Reads-elsewhere, Reads-same}
use Rattle.image_tables.specs.Tables.{SlabHeader}

-- a log reads the same where a root's word is stored
pub book_root : (book : Book) (words : List ℕ) (root value : ℕ) → root < (layout_of (version_in words)).roots → IsBookOf book words → IsBookOf book (put_word words (root_word root) value)
book_root book words root value below log = record {
  reads = Reads-elsewhere book words (root_word root) value (IsOffLog-root words root below) log.reads;
  granules = log.granules ∙ sym (granules_in-put_root words root value);
}

-- and where its words stay
pub book_same : {words new : List ℕ} (book : Book) → SameLog words new → length new ≡ length words → bounds_of new ≡ bounds_of words → IsBookOf book words → IsBookOf book new
book_same {words} {new} book same size bounds log = record { reads = Reads-same book words new same size log.reads; granules = log.granules ∙ ap (λ (b : Bounds). b.granules) (sym bounds) }

-- at each stage the slabs are as before
pub slabs_stage : {words : List ℕ} {root start here word : ℕ} {image : List ℕ} → IsStageOf words root start here word image → KeepsSlabs words image
slabs_stage {words} {root} {start} {here} {word} {image} stage = grind arith

-- so the index of them holds still
pub slabs_kept : {words image : List ℕ} (parts : Supply) → KeepsSlabs words image → granules_in image ≡ granules_in words → IsSlabsOf parts words → IsSlabsOf parts image
slabs_kept {words} {image} parts keeps granules index = record {
  granules = index.granules ∙ sym granules;
  classes = grind arith;
  blocks = λ s i is below.
      let same = keeps.each s in
      let class = ap (λ (h : SlabHeader). h.class) same.header in
      iff_then (index.blocks s i (sym same.slab ∙ is) (subst (λ c. i < class_capacity c) class below))
      (subst (λ c. IsUnusedIn (tables_of words) s ((tables_of words).header s).class i ↔ IsUnusedIn (tables_of image) s c i) (sym class) (IsUnusedIn-same same ((tables_of words).header s).class i));
}

-- the index of an image, by what is vacant in it
pub index_by : (words new : List ℕ) (set : FreeSet) → set.granules ≡ granules_in words → bounds_of new ≡ bounds_of words → ((k : ℕ) → IsFree set k ↔ IsVacant (bounds_of words) (tables_of new) k) → IsIndexOf set new
index_by words new set granules bounds each = grind arith

-- of other tables, in which the same granules are live
pub index_as : {words new : List ℕ} (set : FreeSet) → bounds_of new ≡ bounds_of words → ((start : ℕ) → granules_at (tables_of new) start ≡ granules_at (tables_of words) start) → IsIndexOf set words → IsIndexOf set new
index_as {words} {new} set bounds same index = grind arith

-- of a stage
pub index_stage : {words : List ℕ} {root start here word : ℕ} {image : List ℕ} (set : FreeSet) → IsStageOf words root start here word image → set.granules ≡ granules_in words →
    ((k : ℕ) → IsFree set k ↔ IsVacant (bounds_of words) (with_large (tables_of words) start here root word) k) → IsIndexOf set image
index_stage {words} {root} {start} {here} {word} {image} set stage granules each = index_by words image set granules stage.bounds (λ k. subst (λ t. IsFree set k ↔ IsVacant (bounds_of words) t k) (sym stage.tables) (each k))

-- granules are taken out of the set
pub index_less : (set new : FreeSet) (b : Bounds) (t after : Tables) (start count : ℕ) →
    ((k : ℕ) → IsFree set k ↔ IsVacant b t k) → ((k : ℕ) → IsFree new k ↔ (IsFree set k × ((k < start) ⊎ (start + count ≤ k)))) →
    ((k : ℕ) → IsVacant b after k ↔ (IsVacant b t k × ((k < start) ⊎ (start + count ≤ k)))) → (k : ℕ) → IsFree new k ↔ IsVacant b after k
index_less set new b t after start count was taken vacant k = (
  λ free. let both = (taken k).0 free in (vacant k).1 ((was k).0 both.0, both.1),
  λ is. let both = (vacant k).0 is in (taken k).1 ((was k).1 both.0, both.1),
)

-- granules are put into it
pub index_more : (set new : FreeSet) (b : Bounds) (t after : Tables) (start count : ℕ) →
    ((k : ℕ) → IsFree set k ↔ IsVacant b t k) → ((k : ℕ) → IsFree new k ↔ (IsFree set k ⊎ ((start ≤ k) × (k < start + count)))) →
    ((k : ℕ) → IsVacant b after k ↔ (IsVacant b t k ⊎ ((start ≤ k) × (k < start + count)))) → (k : ℕ) → IsFree new k ↔ IsVacant b after k
index_more set new b t after start count was given vacant k = (
  λ free. ⊎_elim (λ old. (vacant k).1 (inl ((was k).0 old))) (λ more. (vacant k).1 (inr more)) ((given k).0 free),
  λ is. ⊎_elim (λ old. (given k).1 (inl ((was k).1 old))) (λ more. (given k).1 (inr more)) ((vacant k).0 is),
)
