-- When a block of its class in a slab is unused, by its bit and by the live old blocks.
use Rattle.std.proofs.Common.{◌≡◌, ◌≢◌, ◌↔◌, IsTrue, Bool, List, ◌/◌, ◌<◌, ◌≤◌, ℕ, true, false, true≢false, refl, sym, ap, subst, ◌∙◌, arith, inl, inr, ⊎_elim}
use Rattle.slab_morph.proofs.Common.{cases_lt, false_from_ne_true, class_size, class_capacity, class_size-least, morphing_kind, Tables, tables_of, SlabHeader, slab_table, SlabState, kind_of, class_of, old_of, entries_of, Range, AreApart, slab_block, HoldsBit, HoldsOld, IsUnusedIn, IsValidSlab}
use Rattle.heap_model.proofs.Slabbing.{blocks_apart}
use Rattle.slab_morph.specs.Overlaps.{IsCoveredRange}
use Rattle.slab_morph.specs.SlabHeaders.{header_at, HasStateWord, IsSlabHere}
use Rattle.slab_morph.proofs.HeaderTables.{header_of-slab}

module _ (t : Tables) (start number : ℕ) (slab : t.slab start ≡ true) (valid : IsValidSlab (t.header start)) (below : number < class_capacity (t.header start).class) where
  abbrev block : Range
  block = slab_block start (t.header start).class number

  size_some : 16 ≤ class_size (t.header start).class
  size_some = class_size-least (t.header start).class valid.state.is_class

  -- where its bit is clear, if bits are read, and it is apart from each live old block
  pub unused_by : ((t.header start).kind ≢ morphing_kind → (t.header start).bit number ≡ false) →
      ((place : ℕ) → place < (t.header start).index_count → (t.header start).live place ≡ true → AreApart (slab_block start (t.header start).old ((t.header start).number place)) (slab_block start (t.header start).class number)) → IsUnusedIn t start (t.header start).class number
  unused_by clear apart = record {
    each = λ range holds. ⊎_elim
        (λ (bit : HoldsBit (t.header start) start range).
        subst (λ r. AreApart r block) (sym bit.is) (blocks_apart start (t.header start).class bit.number number (λ same. true≢false (sym bit.set ∙ ap (t.header start).bit same ∙ clear bit.read))))
        (λ (old : HoldsOld (t.header start) start range). subst (λ r. AreApart r block) (sym old.is) (apart old.place old.below old.live))
        holds.block;
  }

  -- a bit that is read and set says that it is not
  pub used_by_bit : (t.header start).kind ≢ morphing_kind → (t.header start).bit number ≡ true → ¬ (IsUnusedIn t start (t.header start).class number)
  used_by_bit read set unused =
      ⊎_elim (λ x. omega (arith, x, size_some)) (λ x. omega (arith, x, size_some)) (unused.each block (record { slab = slab; block = inl (record { number = number; below = below; read = read; set = set; is = refl }) }))

  -- and so does a live old block that overlaps it
  pub used_by_old : (place : ℕ) → place < (t.header start).index_count → (t.header start).live place ≡ true → ¬ (AreApart (slab_block start (t.header start).old ((t.header start).number place)) (slab_block start (t.header start).class number)) → ¬ (IsUnusedIn t start (t.header start).class number)
  used_by_old place under live overlap unused = overlap (unused.each (slab_block start (t.header start).old ((t.header start).number place)) (record { slab = slab; block = inr (record { place = place; below = under; live = live; is = refl }) }))

-- a number outside the range of those that an old block covers is apart from it
pub outside_covered : {h : SlabHeader} {start old class place from end : ℕ} → IsCoveredRange h start old class place from end → (number : ℕ) → number < class_capacity class → ¬ ((from ≤ number) × (number < end)) → h.live place ≡ true →
    AreApart (slab_block start old (h.number place)) (slab_block start class number)
outside_covered {h} {start} {old} {class} {place} {from} {end} range number below none =
    range.outside number below (⊎_elim (λ (less : number < from). inl less) (λ (more : from ≤ number). inr (⊎_elim (λ (within : number < end). absurd (none (more, within))) (λ (past : end ≤ number). past) (cases_lt number end))) (cases_lt number from))

-- What is read of a slab's header, by the fields of its state, is what the tables say.
pub record IsRead (words : List ℕ) (start class old entries : ℕ) (reads : Bool) : Type 0 where
  pub class_is : class ≡ ((tables_of words).header start).class
  pub old_is : old ≡ ((tables_of words).header start).old
  pub entries_is : entries ≡ ((tables_of words).header start).index_count
  pub bit_is : (i : ℕ) → (header_at words start).bit i ≡ ((tables_of words).header start).bit i
  pub live_is : (place : ℕ) → (header_at words start).live place ≡ ((tables_of words).header start).live place
  pub number_is : (place : ℕ) → (header_at words start).number place ≡ ((tables_of words).header start).number place
  pub reads_is : IsTrue reads ↔ (((tables_of words).header start).kind ≢ morphing_kind)

pub IsRead_by : {words : List ℕ} {slab class old entries : ℕ} {reads : Bool} {state : SlabState} → IsSlabHere words slab → HasStateWord (header_at words (slab / 16384)) state → class ≡ class_of state → old ≡ old_of state → entries ≡ entries_of state →
    IsTrue reads ↔ (kind_of state ≢ morphing_kind) → IsRead words (slab / 16384) class old entries reads
IsRead_by {words} {slab} {class} {old} {entries} {reads} {state} here says class_is old_is entries_is reads_is =
    let start = slab / 16384 in
    let same = sym (header_of-slab words start here.there) in
    let kind : kind_of state ≡ ((tables_of words).header start).kind = sym says.kind ∙ ap (λ (h : SlabHeader). h.kind) same in
    record {
      class_is = class_is ∙ sym says.class ∙ ap (λ (h : SlabHeader). h.class) same;
      old_is = old_is ∙ sym says.old ∙ ap (λ (h : SlabHeader). h.old) same;
      entries_is = entries_is ∙ sym says.entries ∙ ap (λ (h : SlabHeader). h.index_count) same;
      bit_is = λ i. ap (λ (h : SlabHeader). h.bit i) same;
      live_is = λ place. ap (λ (h : SlabHeader). h.live place) same;
      number_is = λ place. ap (λ (h : SlabHeader). h.number place) same;
      reads_is = (λ is morphing. reads_is.0 is (kind ∙ morphing), λ not_morphing. reads_is.1 (λ morphing. not_morphing (sym kind ∙ morphing)));
    }

-- the answer: neither marked nor covered
module _ {words : List ℕ} {slab class old entries : ℕ} {reads : Bool} (here : IsSlabHere words slab) (read : IsRead words (slab / 16384) class old entries reads) (number : ℕ) (below : number < class_capacity ((tables_of words).header (slab / 16384)).class) where
  abbrev t : Tables
  t = tables_of words

  abbrev start : ℕ
  start = slab / 16384

  valid : IsValidSlab ((tables_of words).header (slab / 16384))
  valid = here.valid

  there : t.slab start ≡ true
  there = slab_table words start ∙ here.there

  -- a range of the slab, by what is read and by its tables
  ranges : (place : ℕ) → AreApart (slab_block start old ((header_at words start).number place)) (slab_block start class number) ≡ AreApart (slab_block start (t.header start).old ((t.header start).number place)) (slab_block start (t.header start).class number)
  ranges place = λ i. AreApart (slab_block start (read.old_is i) (read.number_is place i)) (slab_block start (read.class_is i) number)

  pub small_numbers : (place : ℕ) → place < entries → (header_at words (slab / 16384)).number place < class_capacity old
  small_numbers place under =
      subst (λ n. n < class_capacity old) (sym (read.number_is place)) (subst (λ c. (t.header start).number place < class_capacity c) (sym read.old_is) (valid.small place (subst (λ n. place < n) read.entries_is under)))

  pub unused_read : ¬ (IsTrue reads × ((header_at words (slab / 16384)).bit number ≡ true)) →
      ((place : ℕ) → place < entries → (header_at words (slab / 16384)).live place ≡ true → AreApart (slab_block (slab / 16384) old ((header_at words (slab / 16384)).number place)) (slab_block (slab / 16384) class number)) → IsUnusedIn (tables_of words) (slab / 16384) ((tables_of words).header (slab / 16384)).class number
  unused_read unmarked apart = unused_by t start number there valid below
      (λ not_morphing. false_from_ne_true ((t.header start).bit number) (λ set. unmarked (read.reads_is.1 not_morphing, read.bit_is number ∙ set)))
      (λ place under live. subst (λ (T : Type 0). T) (ranges place) (apart place (subst (λ n. place < n) (sym read.entries_is) under) (read.live_is place ∙ live)))

  pub used_marked : IsTrue reads × ((header_at words (slab / 16384)).bit number ≡ true) → ¬ (IsUnusedIn (tables_of words) (slab / 16384) ((tables_of words).header (slab / 16384)).class number)
  used_marked both = used_by_bit t start number there valid below (read.reads_is.0 both.0) (sym (read.bit_is number) ∙ both.1)

  pub used_covered : (place : ℕ) → place < entries → (header_at words (slab / 16384)).live place ≡ true → ¬ (AreApart (slab_block (slab / 16384) old ((header_at words (slab / 16384)).number place)) (slab_block (slab / 16384) class number)) →
      ¬ (IsUnusedIn (tables_of words) (slab / 16384) ((tables_of words).header (slab / 16384)).class number)
  used_covered place under live overlap = used_by_old t start number there valid below place (subst (λ n. place < n) read.entries_is under) (sym (read.live_is place) ∙ live)
      (λ apart. overlap (subst (λ (T : Type 0). T) (sym (ranges place)) apart))
