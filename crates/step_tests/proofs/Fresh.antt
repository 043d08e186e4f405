-- The log of an arena that is made anew on zeros.
use Rattle.std.proofs.Common.{◌≡◌, ◌*◌, ◌/◌, ◌%◌, ◌^◌, ◌<◌, ℕ, List, [], ◌∷◌, ◌++◌, flat_map, length, refl, sym, ap, subst, ◌∙◌, arith, None}
use Rattle.std.proofs.lemmas.List.Elements.{All-nil, All-cons}
use Rattle.step_tests.proofs.Common.{put_word, AreZeros, word_at-put_same, word_at-put_other, length-put_word, Layout, layout_of, first_row, fields_word, directory_word, entry_slot, version_field, version_in, IsDirectory, logged, IsFresh}
use Rattle.image_tables.specs.Log.{active_chunks, chunk_log, log_of}
use Rattle.image_tables.specs.Extents.{extent_behind, extent_at}
use Rattle.image_tables.proofs.Chunks.{entries_below-zeros}
use Rattle.image_tables.proofs.Places.{log_start-low, entry_slot-low}
use Rattle.book_log.proofs.Directories.{active_chunks-directory}

-- zeros with a header and the directory of chunk 0
pub IsFresh-zeros : (zero : List ℕ) (fields : ℕ) → AreZeros zero → directory_word < length zero → IsFresh (put_word (put_word zero fields_word fields) directory_word 1)
IsFresh-zeros zero fields zeros inside =
    let first = put_word zero fields_word fields in
    let words = put_word first directory_word 1 in
    let version = version_in words in
    record {
      directory = word_at-put_same first directory_word directory_word 1 refl (omega (arith, length-put_word zero fields_word fields));
      empty = λ entry.
          let k = entry_slot version 0 entry in
          let far : 2048 < k = omega (arith, entry_slot-low version 0 entry, log_start-low version) in
          word_at-put_other first directory_word k 1 (λ e. omega (arith, e, far))
          ∙ word_at-put_other zero fields_word k fields (λ e. omega (arith, e, far))
          ∙ zeros.each k;
    }

-- they say that version
version-zeros : (zero : List ℕ) (version : ℕ) → directory_word < length zero → version < 2 ^ 16 → version_in (put_word (put_word zero fields_word version) directory_word 1) ≡ version
version-zeros zero version inside small =
    let field : version % 2 ^ 16 ≡ version = omega (arith, small) in
    ap version_field (word_at-put_other (put_word zero fields_word version) directory_word fields_word 1 (λ e. omega (arith, e)) ∙ word_at-put_same zero fields_word fields_word version refl (omega (arith, inside))) ∙ field

-- a version's log without an entry
pub record IsFreshOf (version : ℕ) (words : List ℕ) : Type 0 where
  pub fresh : IsFresh words
  pub version_is : version_in words ≡ version

-- it is begun on zeros by two words
pub fresh_by : {zero one two : List ℕ} {a b fields version : ℕ} → AreZeros zero → directory_word < length zero → fields ≡ version → version < 2 ^ 16 → a ≡ 8 * fields_word → one ≡ put_word zero (a / 8) fields →
    b ≡ 8 * directory_word → two ≡ put_word one (b / 8) 1 → IsFreshOf version two
fresh_by {zero} {one} {two} {a} {b} {fields} {version} zeros inside says small at_a is_one at_b is_two =
    let first : one ≡ put_word zero fields_word version = is_one ∙ ap (λ at. put_word zero (at / 8) fields) at_a ∙ ap (λ word. put_word zero fields_word word) says in
    let words : two ≡ put_word (put_word zero fields_word version) directory_word 1 = is_two ∙ ap (λ at. put_word one (at / 8) 1) at_b ∙ ap (λ (ws : List ℕ). put_word ws directory_word 1) first in
    record {
      fresh = subst IsFresh (sym words) (IsFresh-zeros zero version zeros inside);
      version_is = ap (λ (ws : List ℕ). version_in ws) words ∙ version-zeros zero version inside small;
    }

-- where the heap of version 1 begins
pub first_heap : {version : ℕ} → version ≡ 1 → (layout_of version).first_granule ≡ 4
first_heap is = ap (λ v. (layout_of v).first_granule) is ∙ ap (λ (row : Layout). row.first_granule) first_row

-- in a new log nothing is live
one_chunk : IsDirectory 1 (0 ∷ [])
one_chunk = record {
  word = omega arith;
  some = omega arith;
  most = omega arith;
  small = All-cons (λ c. c < 16) 0 [] (omega arith) (All-nil (λ c. c < 16));
  once = λ k later d before below. absurd (omega arith);
}

pub fresh_none : (words : List ℕ) (start : ℕ) → IsFresh words → extent_at words start ≡ None
unfolding extent_at log_of chunk_log
fresh_none words start fresh =
    let version = version_in words in
    ap (λ d. extent_behind (flat_map (chunk_log version words) (active_chunks d)) start None) fresh.directory
    ∙ ap (λ cs. extent_behind (flat_map (chunk_log version words) cs) start None) (active_chunks-directory 1 (0 ∷ []) one_chunk)
    ∙ ap (λ xs. extent_behind (xs ++ []) start None) (entries_below-zeros (logged version words 0) 0 (layout_of version).chunk_entries (omega arith) (λ i low high. fresh.empty i))
