-- A store to the index table of a slab keeps the form of the words.
use Rattle.std.proofs.Common.{◌≡◌, ◌≢◌, ℕ, ◌*◌, ◌<◌, ◌≤◌, List, length, refl, sym, ap, subst, ◌∙◌, arith, ⊎_elim}
use Rattle.heap_check.proofs.Common.{cases_eq, word_at, put_word, word_at-put_same, word_at-put_other, length-put_word, layout_of, text_word, fields_word, wal_word, granules_field, version_in, granules_in, IsIndexWord, is_slab, state_word, index_word, state_field, IsSameOffHeader-put, SameLog-off_header, is_slab-off_header, log_start-low, log_start-high, wal_word-low, state_field-same, HasLog, HasLog-same}
use Rattle.heap_check.specs.Image.{IsFormed}
use Rattle.heap_check.proofs.Forms.{IsHeader-same, HasWal-same}

-- a store of an index word keeps the form of the words
pub IsFormed-put_index : (words : List ℕ) (start place value : ℕ) → IsFormed words → (layout_of (version_in words)).first_granule ≤ start → place < 64 → index_word start place < length words → IsIndexWord value →
    IsFormed (put_word words (index_word start place) value)
IsFormed-put_index words start place value formed in_heap below inside valid =
    let at = index_word start place in
    let new = put_word words at value in
    let off = IsSameOffHeader-put words start at value in_heap (omega arith) (omega (arith, below)) in
    let version = version_in words in
    let low : (k : ℕ) → k < 2048 → word_at new k ≡ word_at words k =
    λ k small. word_at-put_other words at k value (λ e. omega (arith, e, in_heap, small, log_start-low version, log_start-high version)) in
    let size = length-put_word words at value in
    let fields = low fields_word (omega arith) in
    let slab : (other : ℕ) → is_slab new other ≡ is_slab words other = λ other. is_slab-off_header words new start other off in
    let state : (other : ℕ) → word_at new (state_word other) ≡ word_at words (state_word other) = λ other. word_at-put_other words at (state_word other) value (λ e. omega (arith, e, below)) in
    record {
      header = IsHeader-same words new size (low text_word (omega arith)) fields formed.header;
      size = size ∙ formed.size ∙ sym (ap (λ w. 2048 * granules_field w) fields);
      log = subst (λ granules. HasLog granules new) (sym (ap granules_field fields)) (HasLog-same (granules_in words) words new (SameLog-off_header words new start off) formed.log);
      wal = HasWal-same words new (λ line under. low (wal_word line) (wal_word-low line under)) formed.wal;
      slabs = λ other is.
          let was = formed.slabs other (sym (slab other) ∙ is) in
          let entries : state_field new other 24 ≡ state_field words other 24 = state_field-same words new other 24 (slab other) (λ yes. state other) in
          record {
            state = omega (arith, state other, was.state);
            index = λ p under. ⊎_elim
                (λ (here : index_word other p ≡ at). subst IsIndexWord (sym (ap (word_at new) here ∙ word_at-put_same words at at value refl inside)) valid)
                (λ (differ : index_word other p ≢ at). subst IsIndexWord (sym (word_at-put_other words at (index_word other p) value differ)) (was.index p (omega (arith, under, entries))))
                (cases_eq (index_word other p) at);
          };
    }
