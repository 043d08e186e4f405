-- Words of one slab's header differ: the form of the words, the numbers of the arena, and the words of blocks. And a step on
-- the header, by the granule at which the slab begins.
use Rattle.std.proofs.Common.{◌≡◌, ◌≢◌, ◌+◌, ◌*◌, ◌/◌, ◌<◌, ◌≤◌, ℕ, true, List, sym, ap, subst, ◌∙◌, arith, inl, inr, ⊎_elim}
use Rattle.transition_steps.proofs.Common.{cases_eq, cases_lt, PmemState, IsIndexWord, is_slab, AreSlabsInHeap, state_word, index_word, state_field, tables_of, SlabHeader, IsValidSlab, IsSound, bounds_of, HasSlabHeader, IsFormed, header_at, IsOffHeader, IsValidHeader, KeepsHeld}
use Rattle.pmem_lines.specs.Words.{word_at}
use Rattle.pmem_lines.specs.declared.event.Event.{Event}
use Rattle.pmem_lines.specs.Steps.{IsQuietStep}
use Rattle.pool_layout.specs.Places.{text_word, fields_word, wal_word, granule_word, blocks_place}
use Rattle.pool_layout.specs.Header.{granules_field, version_in, granules_in}
use Rattle.image_tables.proofs.Headers.{IsSameOffHeader, SameLog-off_header, is_slab-off_header}
use Rattle.image_tables.proofs.Places.{log_start-low}
use Rattle.image_tables.proofs.Stores.{log_start-high, wal_word-low, state_field-same}
use Rattle.image_tables.proofs.Tables.{slab_fields}
use Rattle.book_log.specs.Book.{HasLog}
use Rattle.book_log.proofs.Books.{HasLog-same}
use Rattle.heap_check.specs.State.{KeepsBlocks}
use Rattle.heap_check.proofs.Forms.{AreSlabsInHeap-sound, IsHeader-same, HasWal-same, bounds_of-same}
use Rattle.heap_check.proofs.StateWords.{IsStateWord-valid}
use Rattle.slab_morph.proofs.HeaderTables.{header_of-slab}
use Rattle.settle_steps.proofs.Images.{LiesInWords, slab_lies, few_entries}
use Rattle.transition_steps.proofs.BlockPlaces.{word_off_header}

-- the granule of a slab's first byte
pub granule_is : {at start : ℕ} → at ≡ 8 * granule_word start → at / 16384 ≡ start
granule_is is = omega (arith, is)

-- a step on the header of the slab at a byte, by the slab's granule and by what the tables say of the header
pub step_here : {s t : PmemState} {words : List ℕ} (events : ℕ → SlabHeader → List Event) (Stage : SlabHeader → SlabHeader → Type 0) {at start : ℕ} {h : SlabHeader} → at ≡ start → h ≡ header_at words start →
    IsQuietStep s t (events at (header_at words at)) (KeepsHeld words at (Stage (header_at words at))) → IsQuietStep s t (events start h) (KeepsHeld words start (Stage (header_at words start)))
step_here {s} {t} {words} events Stage {at} {start} {h} there here step =
    subst (λ (g : SlabHeader). IsQuietStep s t (events start g) (KeepsHeld words start (Stage (header_at words start)))) (sym here)
    (subst (λ a. IsQuietStep s t (events a (header_at words a)) (KeepsHeld words a (Stage (header_at words a)))) there step)

-- and what it leaves
pub kept_here : {words new : List ℕ} (Stage : SlabHeader → SlabHeader → Type 0) {at start : ℕ} → at ≡ start → KeepsHeld words at (Stage (header_at words at)) new → KeepsHeld words start (Stage (header_at words start)) new
kept_here {words} {new} Stage there kept = subst (λ a. KeepsHeld words a (Stage (header_at words a)) new) there kept

-- the header of a slab of well-formed words, whose tables are valid, is
valid_here : (words : List ℕ) (start : ℕ) → is_slab words start ≡ true → HasSlabHeader words start → IsValidSlab ((tables_of words).header start) → IsValidHeader words start
valid_here words start is header slab =
    let same = header_of-slab words start is in
    record {
      state = IsStateWord-valid words start is header.state slab;
      index = λ place below. header.index place (omega (arith, below, ap (λ (h : SlabHeader). h.index_count) same, (slab_fields words start).index_count));
      slab = subst IsValidSlab same slab;
    }

-- and a valid one has the form of one
header_there : (words : List ℕ) (start : ℕ) → is_slab words start ≡ true → IsValidHeader words start → HasSlabHeader words start
header_there words start is valid = record {
  state = valid.state.small;
  index = λ place below. valid.index place (omega (arith, below, ap (λ (h : SlabHeader). h.index_count) (header_of-slab words start is), (slab_fields words start).index_count));
}

module _ (words : List ℕ) (start : ℕ) (formed : IsFormed words) (sound : IsSound (bounds_of words) (tables_of words)) (slab : (tables_of words).slab start ≡ true) where
  pub lies_here : LiesInWords words start
  lies_here = slab_lies words formed sound start slab

  pub slabs_here : AreSlabsInHeap words
  slabs_here = AreSlabsInHeap-sound words sound

  pub is_valid_here : IsValidHeader words start
  is_valid_here = valid_here words start lies_here.here (formed.slabs start lies_here.here) (sound.slabs start slab)

  pub header_here : ((tables_of words).header start) ≡ header_at words start
  header_here = header_of-slab words start lies_here.here

  module _ (image : List ℕ) (off : IsOffHeader words start image) (valid : IsValidHeader image start) where
    same : IsSameOffHeader words image start
    same = record { in_heap = lies_here.low; others = off.others }

    low : (k : ℕ) → k < 2048 → word_at image k ≡ word_at words k
    low k small = off.others k (inl (omega (arith, small, lies_here.low, log_start-low (version_in words), log_start-high (version_in words))))

    slab_same : (other : ℕ) → is_slab image other ≡ is_slab words other
    slab_same other = is_slab-off_header words image start other same

    fields : word_at image fields_word ≡ word_at words fields_word
    fields = low fields_word (omega arith)

    there : (other k : ℕ) → other ≢ start → granule_word other ≤ k → k < granule_word other + blocks_place → word_at image k ≡ word_at words k
    there other k apart from to = off.others k (⊎_elim
        (λ (before : other < start). inl (omega (arith, before, to)))
        (λ (behind : start ≤ other). inr (omega (arith, behind, apart, from)))
        (cases_lt other start))

    header_other : (other : ℕ) → is_slab words other ≡ true → other ≢ start → HasSlabHeader image other
    header_other other is apart =
        let was = formed.slabs other is in
        let state = there other (state_word other) apart (omega arith) (omega arith) in
        let few = few_entries words sound other is in
        let entries : state_field image other 24 ≡ state_field words other 24 = state_field-same words image other 24 (slab_same other) (λ yes. state) in
        record {
          state = omega (arith, state, was.state);
          index = λ place below.
              let among : place < state_field words other 24 = omega (arith, entries, below) in
              subst IsIndexWord (sym (there other (index_word other place) apart (omega arith) (omega (arith, among, few)))) (was.index place among);
        }

    pub formed_after : IsFormed image
    formed_after = record {
      header = IsHeader-same words image off.same_length (low text_word (omega arith)) fields formed.header;
      size = off.same_length ∙ formed.size ∙ sym (ap (λ w. 2048 * granules_field w) fields);
      log = subst (λ granules. HasLog granules image) (sym (ap granules_field fields)) (HasLog-same (granules_in words) words image (SameLog-off_header words image start same) formed.log);
      wal = HasWal-same words image (λ line under. low (wal_word line) (wal_word-low line under)) formed.wal;
      slabs = λ other is. ⊎_elim
          (λ (own : other ≡ start). subst (HasSlabHeader image) (sym own) (header_there image start (slab_same start ∙ lies_here.here) valid))
          (λ (apart : other ≢ start). header_other other (sym (slab_same other) ∙ is) apart)
          (cases_eq other start);
    }

    pub bounds_after : bounds_of image ≡ bounds_of words
    bounds_after = bounds_of-same words image fields

    pub blocks_after : KeepsBlocks words image
    blocks_after = record {
      each = λ root other range k was is word. off.others k (word_off_header sound root range was k word start slab);
    }
