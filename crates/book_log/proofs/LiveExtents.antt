-- The entries of the live extents: each is valid, the log of them alone has the same live extents, and there are at
-- most half as many as granules.
use Rattle.std.proofs.Common.{◌≡◌, ◌≢◌, ◌/◌, ◌%◌, ◌^◌, ◌<◌, ⊎_elim, ℕ, zero, suc, cond, eqb, List, [], ◌∷◌, sym, ap, ◌∙◌, subst, arith, Option, Some, None, flat_map}
use Rattle.book_log.proofs.Common.{All, cases_eq, eq-eqb, ne_eqb, cond-true, cond-false, All-nil, All-cons, All-head, All-tail, All-append, word_at, layout_of, directory_word, version_in, Extent, extent_after-named, extent_after-other}
use Rattle.image_tables.specs.declared.extent.Extent.TheVariants as extent
use Rattle.image_tables.specs.Log.{entry_or_none, entries_below, chunk_log, log_of}
use Rattle.image_tables.specs.Extents.{start_of_entry, extent_after, extent_behind, extent_at}
use Rattle.book_log.specs.declared.entry.LogEntry.{LogEntry}
use Rattle.book_log.specs.declared.entry.LogEntry.TheVariants.{Large, Slab, Tomb}
use Rattle.book_log.specs.Entry.{log_word, FitsWord, IsInHeap, SaysOf, start_of, extent_of, IsEntryWord}
use Rattle.book_log.specs.Log.{IsChunk, IsLog, logged}
use Rattle.book_log.proofs.Directories.{active_chunks-directory}
use Rattle.book_log.specs.Live.{IsLive, AreLive}

-- the word is that of an entry in the heap
abbrev pub IsValid : ℕ → ℕ → ℕ → Type 0
IsValid first granules word = (entry : LogEntry) × IsEntryWord first granules word entry

-- the word of an entry says what the entry says
pub says_of : (entry : LogEntry) → FitsWord entry → SaysOf (log_word entry) entry
says_of (Large start granules) fits =
    let kind : log_word (Large start granules) % 2 ^ 8 ≡ 1 = omega arith in
    let size : log_word (Large start granules) / 2 ^ 24 % 2 ^ 16 ≡ granules = omega (arith, fits.0, fits.1) in
    record {
      start = omega (arith, fits.0, fits.1);
      says = ap (λ k. cond (eqb k 1) (Some (extent.Large (log_word (Large start granules) / 2 ^ 24 % 2 ^ 16))) (cond (eqb k 2) (Some extent.Slab) None)) kind ∙ ap (λ n. Some (extent.Large n)) size;
    }
says_of (Slab start) fits =
    let kind : log_word (Slab start) % 2 ^ 8 ≡ 2 = omega arith in
    record { start = omega (arith, fits); says = ap (λ k. cond (eqb k 1) (Some (extent.Large (log_word (Slab start) / 2 ^ 24 % 2 ^ 16))) (cond (eqb k 2) (Some extent.Slab) None)) kind }
says_of (Tomb start) fits =
    let kind : log_word (Tomb start) % 2 ^ 8 ≡ 3 = omega arith in
    record { start = omega (arith, fits); says = ap (λ k. cond (eqb k 1) (Some (extent.Large (log_word (Tomb start) / 2 ^ 24 % 2 ^ 16))) (cond (eqb k 2) (Some extent.Slab) None)) kind }

-- a word of an entry says what the entry says
pub valid_says : (first granules word : ℕ) (valid : IsValid first granules word) → SaysOf word valid.0
valid_says first granules word valid = subst (λ w. SaysOf w valid.0) (sym valid.1.word) (says_of valid.0 valid.1.fits)

valid_live : (first granules : ℕ) (entry : LogEntry) (x : Extent) → granules < 2 ^ 16 → IsInHeap first granules entry → extent_of entry ≡ Some x → IsLive first granules (start_of entry) x
valid_live first granules (Large start size) x few in_heap is =
    subst (IsLive first granules start) (some_same (extent.Large size) x is) (record { low = omega (arith, in_heap.0); some = omega (arith, in_heap.1); high = omega (arith, in_heap.2); fits = omega (arith, in_heap.2) })
  where
    some_same : (a b : Extent) → Some a ≡ Some b → a ≡ b
    some_same a b e = cc
valid_live first granules (Slab start) x few in_heap is =
    subst (IsLive first granules start) (some_same extent.Slab x is) (record { low = omega (arith, in_heap.0); some = omega arith; high = omega (arith, in_heap.1); fits = omega (arith, in_heap.1) })
  where
    some_same : (a b : Extent) → Some a ≡ Some b → a ≡ b
    some_same a b e = cc
valid_live first granules (Tomb start) x few in_heap is = absurd (cc)

-- what starts behind valid entries is live
behind_live : (first granules : ℕ) (words : List ℕ) (start : ℕ) (before : Option Extent) (extent : Extent) → granules < 2 ^ 16 → All (IsValid first granules) words →
    ((e : Extent) → before ≡ Some e → IsLive first granules start e) → extent_behind words start before ≡ Some extent → IsLive first granules start extent
behind_live first granules [] start before extent few valid was is = was extent is
behind_live first granules (word ∷ words) start before extent few valid was is =
    let found : IsValid first granules word = All-head (IsValid first granules) word words valid in
    let says = valid_says first granules word found in
    behind_live first granules words start (extent_after word start before) extent few (All-tail (IsValid first granules) word words valid)
    (λ e here. ⊎_elim
    (λ (same : start_of_entry word ≡ start).
    subst (λ s. IsLive first granules s e) (sym says.start ∙ same)
    (valid_live first granules found.0 e few found.1.in_heap (sym says.says ∙ sym (extent_after-named word start before same) ∙ here)))
    (λ (other : start_of_entry word ≢ start). was e (sym (extent_after-other word start before other) ∙ here))
    (cases_eq (start_of_entry word) start))
    is

-- the entries of a chunk that is well formed
valid_below : (P : ℕ → Type 0) (row : ℕ → ℕ) (n : ℕ) → ((i : ℕ) → i < n → row i ≢ 0 → P (row i)) → All P (entries_below row n)
valid_below P row zero each = All-nil P
valid_below P row (suc n) each =
    All-append P (entries_below row n) (entry_or_none (row n)) (valid_below P row n (λ i less some. each i (omega arith) some))
    (⊎_elim
    (λ (none : row n ≡ 0). subst (All P) (sym (cond-true (eqb (row n) 0) [] (row n ∷ []) (eq-eqb (row n) 0 none))) (All-nil P))
    (λ (some : row n ≢ 0). subst (All P) (sym (cond-false (eqb (row n) 0) [] (row n ∷ []) (ne_eqb (row n) 0 some))) (All-cons P (row n) [] (each n (omega arith) some) (All-nil P)))
    (cases_eq (row n) 0))

-- the entries of chunks that are well formed are valid
pub valid_log : (version granules : ℕ) (words chunks : List ℕ) → All (IsChunk version granules words) chunks → All (IsValid (layout_of version).first_granule granules) (flat_map (chunk_log version words) chunks)
unfolding chunk_log
valid_log version granules words [] formed = All-nil (IsValid (layout_of version).first_granule granules)
valid_log version granules words (chunk ∷ chunks) formed =
    let P : ℕ → Type 0 = IsValid (layout_of version).first_granule granules in
    let here : IsChunk version granules words chunk = All-head (IsChunk version granules words) chunk chunks formed in
    All-append P (chunk_log version words chunk) (flat_map (chunk_log version words) chunks)
    (valid_below P (logged version words chunk) (layout_of version).chunk_entries (λ i less some. here.entries i less some))
    (valid_log version granules words chunks (All-tail (IsChunk version granules words) chunk chunks formed))

-- the live extents are read off the active chunks
pub extent_at-active : (granules : ℕ) (words active : List ℕ) (start : ℕ) → IsLog granules words active → extent_at words start ≡ extent_behind (flat_map (chunk_log (version_in words) words) active) start None
unfolding extent_at log_of
extent_at-active granules words active start log =
    ap (λ cs. extent_behind (flat_map (chunk_log (version_in words) words) cs) start None) (active_chunks-directory (word_at words directory_word) active log.directory)

-- what starts by chunks that are well formed is live
pub live_over : (version granules : ℕ) (words chunks : List ℕ) → granules < 2 ^ 16 → All (IsChunk version granules words) chunks →
    AreLive (layout_of version).first_granule granules (λ start. extent_behind (flat_map (chunk_log version words) chunks) start None)
live_over version granules words chunks few formed = record {
  each = λ start extent is.
      behind_live (layout_of version).first_granule granules (flat_map (chunk_log version words) chunks) start None extent few (valid_log version granules words chunks formed) (λ e none. absurd (cc)) is;
}

-- the live extents of a well-formed log are in the heap
pub live_extents : (granules : ℕ) (words active : List ℕ) → granules < 2 ^ 16 → IsLog granules words active → AreLive (layout_of (version_in words)).first_granule granules (extent_at words)
live_extents granules words active few log = record {
  each = λ start extent is. (live_over (version_in words) granules words active few log.entries).each start extent (sym (extent_at-active granules words active start log) ∙ is);
}
