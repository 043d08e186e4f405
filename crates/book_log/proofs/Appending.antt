-- An entry put at the next place of the log.
use Rattle.std.proofs.Common.{◌≡◌, ◌≢◌, ◌<◌, ◌≤◌, ⊎_elim, ℕ, eqb, cond, Option, List, [], ◌∷◌, ◌++◌, length, get_or, refl, sym, ap, ◌∙◌, subst, arith, length-append}
use Rattle.book_log.proofs.Common.{All, AllPairs, cases_eq, cases_lt, eq-eqb, ne_eqb, cond-true, cond-false, All-push, word_at, put_word, word_at-put_same, layout_of, directory_word, entry_slot, version_field, version_in, Extent, extent_at, extent_at-appended, extent_after-named, extent_after-other}
use Rattle.std.proofs.Math.ListN.{get_or-append}
use Rattle.std.proofs.Math.Seq.{get_or-append_seam}
use Rattle.image_tables.proofs.Logs.{IsFront, entry_store}
use Rattle.book_log.specs.declared.entry.LogEntry.{LogEntry}
use Rattle.book_log.specs.declared.entry.LogEntry.TheVariants.{Large, Slab, Tomb}
use Rattle.book_log.specs.Entry.{log_word, IsEntryWord, SaysOf, start_of, extent_of}
use Rattle.book_log.specs.Log.{IsDirectory, IsChunk, IsLog, IsNext, with_entry, logged}
use Rattle.book_log.proofs.Directories.{active_chunks-directory}

-- the last of several that differ is none of those before it
last_once : (before : List ℕ) (chunk : ℕ) → AllPairs (λ c later. c ≢ later) (before ++ chunk ∷ []) → All (λ c. c ≢ chunk) before
last_once before chunk once k d below same =
    once k (length before) d below (omega (arith, length-append before (chunk ∷ [])))
    (get_or-append before (chunk ∷ []) d k below ∙ same ∙ sym (get_or-append_seam before chunk [] d))

last_holds : (P : ℕ → Type 0) (before : List ℕ) (chunk : ℕ) → All P (before ++ chunk ∷ []) → P chunk
last_holds P before chunk all =
    subst P (get_or-append_seam before chunk [] chunk) (all (length before) chunk (omega (arith, length-append before (chunk ∷ []))))

front_holds : (P : ℕ → Type 0) (before : List ℕ) (chunk : ℕ) → All P (before ++ chunk ∷ []) → All P before
front_holds P before chunk all k d below =
    subst P (get_or-append before (chunk ∷ []) d k below) (all k d (omega (arith, length-append before (chunk ∷ []))))

-- an entry is about to be put at the next place of a well-formed log
pub record IsAppend (granules : ℕ) (words before : List ℕ) (chunk place : ℕ) : Type 0 where
  pub log : IsLog granules words (before ++ chunk ∷ [])
  pub next : IsNext (version_in words) words chunk place
  pub inside : entry_slot (version_in words) chunk place < length words

-- the next place is the front of the log
pub front_of : {granules : ℕ} {words before : List ℕ} {chunk place : ℕ} → IsAppend granules words before chunk place → IsFront words before chunk place
front_of {granules} {words} {before} {chunk} {place} append = record {
  chunks = active_chunks-directory (word_at words directory_word) (before ++ chunk ∷ []) append.log.directory;
  once = last_once before chunk append.log.directory.once;
  below = append.next.below;
  free = λ later behind below. (last_holds (IsChunk (version_in words) granules words) before chunk append.log.entries).packed place later behind below append.next.free;
  inside = append.inside;
}

-- the word of an entry is not 0
pub log_word-some : (entry : LogEntry) → log_word entry ≢ 0
log_word-some (Large start granules) is = omega arith
log_word-some (Slab start) is = omega arith
log_word-some (Tomb start) is = omega arith

-- the live extents with the entry done
pub extent_at-entry : (words before : List ℕ) (chunk place v : ℕ) (entry : LogEntry) (start : ℕ) → IsFront words before chunk place → v ≢ 0 → SaysOf v entry →
    extent_at (put_word words (entry_slot (version_in words) chunk place) v) start ≡ with_entry (extent_at words) entry start
extent_at-entry words before chunk place v entry start front some says =
    extent_at-appended words before chunk place v start front some
    ∙ ⊎_elim
    (λ (same : start ≡ start_of entry).
    extent_after-named v start (extent_at words start) (says.start ∙ sym same) ∙ says.says
    ∙ sym (cond-true (eqb start (start_of entry)) (extent_of entry) (extent_at words start) (eq-eqb start (start_of entry) same)))
    (λ (other : start ≢ start_of entry).
    extent_after-other v start (extent_at words start) (λ e. other (sym e ∙ says.start))
    ∙ sym (cond-false (eqb start (start_of entry)) (extent_of entry) (extent_at words start) (ne_eqb start (start_of entry) other)))
    (cases_eq start (start_of entry))

-- an entry done in tables that agree there
pub with_entry-same : (old new : ℕ → Option Extent) (entry : LogEntry) (start : ℕ) → old start ≡ new start → with_entry old entry start ≡ with_entry new entry start
with_entry-same old new entry start same = ap (λ x. cond (eqb start (start_of entry)) (extent_of entry) x) same

-- a chunk whose words are the same
pub chunk_same : (version granules : ℕ) (words new : List ℕ) (chunk : ℕ) → ((place : ℕ) → place < (layout_of version).chunk_entries → logged version new chunk place ≡ logged version words chunk place) →
    IsChunk version granules words chunk → IsChunk version granules new chunk
chunk_same version granules words new chunk same is = record {
  entries = λ place below some.
      let e = same place below in
      let found = is.entries place below (λ none. some (e ∙ none)) in
      (found.0, subst (λ w. IsEntryWord (layout_of version).first_granule granules w found.0) (sym e) found.1);
  packed = λ place later behind below none. same later below ∙ is.packed place later behind below (sym (same place (omega arith)) ∙ none);
}

-- the chunk with an entry at its next place
chunk_put : (version granules : ℕ) (words new : List ℕ) (chunk place v : ℕ) (entry : LogEntry) → IsChunk version granules words chunk → IsNext version words chunk place →
    IsEntryWord (layout_of version).first_granule granules v entry → logged version new chunk place ≡ v →
    ((other : ℕ) → other < (layout_of version).chunk_entries → other ≢ place → logged version new chunk other ≡ logged version words chunk other) → IsChunk version granules new chunk
chunk_put version granules words new chunk place v entry is next valid here others =
    let some : v ≢ 0 = λ none. log_word-some entry (sym valid.word ∙ none) in
    record {
      entries = λ other below filled. ⊎_elim
          (λ (same : other ≡ place). (entry, subst (λ w. IsEntryWord (layout_of version).first_granule granules w entry) (sym (ap (logged version new chunk) same ∙ here)) valid))
          (λ (apart : other ≢ place).
          let e = others other below apart in
          let found = is.entries other below (λ none. filled (e ∙ none)) in
          (found.0, subst (λ w. IsEntryWord (layout_of version).first_granule granules w found.0) (sym e) found.1))
          (cases_eq other place);
      packed = λ other later behind below none. ⊎_elim
          (λ (same : other ≡ place). absurd (some (sym here ∙ ap (logged version new chunk) (sym same) ∙ none)))
          (λ (apart : other ≢ place).
          let was : logged version words chunk other ≡ 0 = sym (others other (omega arith) apart) ∙ none in
          ⊎_elim
          (λ (lower : other < place). absurd (next.first other lower was))
          (λ (higher : place ≤ other).
          let beyond : later ≢ place = λ e. apart (omega arith) in
          others later below beyond ∙ is.packed other later behind below was)
          (cases_lt other place))
          (cases_eq other place);
    }

-- an append leaves the log well formed
pub log_appended : (granules : ℕ) (words before : List ℕ) (chunk place v : ℕ) (entry : LogEntry) → IsAppend granules words before chunk place →
    IsEntryWord (layout_of (version_in words)).first_granule granules v entry → IsLog granules (put_word words (entry_slot (version_in words) chunk place) v) (before ++ chunk ∷ [])
log_appended granules words before chunk place v entry append valid =
    let version = version_in words in
    let k = entry_slot version chunk place in
    let new = put_word words k v in
    let stored = entry_store words chunk place v append.next.below in
    let is = append.log.entries in
    let chunks = before ++ chunk ∷ [] in
    let old : All (IsChunk version granules new) before = λ i d within.
    chunk_same version granules words new (get_or before i d)
    (stored.chunks (get_or before i d) (last_once before chunk append.log.directory.once i d within)).each
    (front_holds (IsChunk version granules words) before chunk is i d within) in
    let last : IsChunk version granules new chunk =
    chunk_put version granules words new chunk place v entry (last_holds (IsChunk version granules words) before chunk is) append.next valid
    (word_at-put_same words k k v refl append.inside)
    stored.entries in
    record {
      directory = subst (λ w. IsDirectory w chunks) (sym stored.directory) append.log.directory;
      entries = subst (λ w. All (IsChunk (version_field w) granules new) chunks) (sym stored.fields) (All-push (IsChunk version granules new) before chunk old last);
    }
