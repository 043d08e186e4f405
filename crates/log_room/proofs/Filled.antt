-- What is read of chunks that entries were put into, and the log that is read off them.
use Rattle.std.proofs.Common.{◌≡◌, ◌≢◌, ◌+◌, ◌*◌, ◌/◌, ◌<◌, ◌≤◌, ⊎_elim, ℕ, zero, suc, cond, List, [], ◌∷◌, ◌++◌, length, get_or, take, drop, refl, sym, ap, ◌∙◌, subst, arith, flat_map, append-nil, length-drop}
use Rattle.log_room.proofs.Common.{All, AllPairs, cases_eq, cases_lt, ne_eqb, take-append-drop, take_all, get_or_past, All-nil, All-cons, All-head, All-tail, All-drop, All-get_or, word_at, put_word, word_at-put_same, length-put_word, reading, IsStored, layout_of, chunk_word, entry_lines, entry_slot, heap_word, entry_slot-same, entry_slot-high, flushes_of, IsValid, IsChunk}
use Rattle.std.proofs.Math.Seq.{take-suc}
use Rattle.pmem_lines.proofs.Reading.{reading-append, length-reading}
use Rattle.image_tables.specs.Log.{entry_or_none, entries_below, chunk_log}
use Rattle.image_tables.proofs.Chunks.{entries_below-same}
use Rattle.book_log.proofs.Appending.{log_word-some}
use Rattle.log_room.specs.Copies.{entry_stores, fill_events, copy_events}
use Rattle.log_room.proofs.Events.{reading-other, none_stored}
use Rattle.log_room.proofs.Copies.{stored_copy}

-- a chunk's entries read as these values
pub record ReadsAs (version : ℕ) (words : List ℕ) (chunk : ℕ) (value : ℕ → ℕ) : Type 0 where
  pub each : (e : ℕ) → e < (layout_of version).chunk_entries → word_at words (entry_slot version chunk e) ≡ value e

-- chunks read as entries one after another, with zeros behind the last
abbrev pub ReadAs : ℕ → List ℕ → List ℕ → List ℕ → Type 0
ReadAs version words [] entries = Unit {0}
ReadAs version words (chunk ∷ chunks) entries = ReadsAs version words chunk (λ e. get_or entries e 0) × ReadAs version words chunks (drop (layout_of version).chunk_entries entries)

-- an earlier entry is not stored
none_before : (version chunk : ℕ) (value : ℕ → ℕ) (entry n j x : ℕ) → j < entry → entry + n ≤ (layout_of version).chunk_entries → IsStored (entry_stores version chunk value entry n) (entry_slot version chunk j) x → ⊥
none_before version chunk value entry zero j x before fits s = s
none_before version chunk value entry (suc n) j x before fits s =
    ⊎_elim
    (λ here. let same = entry_slot-same version chunk chunk entry j (omega arith) (omega arith) (omega (arith, here.0)) in omega (arith, same.1))
    (λ later. none_before version chunk value (entry + 1) n j x (omega arith) (omega arith) later)
    s

read_entries : (version chunk : ℕ) (value : ℕ → ℕ) (entry n : ℕ) (base : List ℕ) (j : ℕ) → chunk < 16 → heap_word version ≤ length base → entry + n ≤ (layout_of version).chunk_entries → entry ≤ j → j < entry + n →
    word_at (reading base (entry_stores version chunk value entry n)) (entry_slot version chunk j) ≡ value j
read_entries version chunk value entry zero base j few inside fits low high = absurd (omega arith)
read_entries version chunk value entry (suc n) base j few inside fits low high =
    let at = 8 * entry_slot version chunk entry in
    let next = put_word base (at / 8) (value entry) in
    ⊎_elim
    (λ (here : j ≡ entry).
    reading-other next (entry_stores version chunk value (entry + 1) n) (entry_slot version chunk j) (λ x s. none_before version chunk value (entry + 1) n j x (omega arith) (omega arith) s)
    ∙ word_at-put_same base (at / 8) (entry_slot version chunk j) (value entry) (omega (arith, ap (entry_slot version chunk) here)) (omega (arith, entry_slot-high version chunk entry few (omega arith)))
    ∙ ap value (sym here))
    (λ (later : j ≢ entry). read_entries version chunk value (entry + 1) n next j few (omega (arith, length-put_word base (at / 8) (value entry))) (omega arith) (omega (arith, later)) (omega arith))
    (cases_eq j entry)

read_fill : (version chunk : ℕ) (value : ℕ → ℕ) (base : List ℕ) → chunk < 16 → heap_word version ≤ length base → ReadsAs version (reading base (fill_events version chunk value)) chunk value
read_fill version chunk value base few inside =
    let n = (layout_of version).chunk_entries in
    let flushes = flushes_of (chunk_word version chunk / 8 + 1) (entry_lines version) in
    record {
      each = λ e below.
          ap (λ ws. word_at ws (entry_slot version chunk e)) (reading-append base (entry_stores version chunk value 0 n) flushes)
          ∙ reading-other (reading base (entry_stores version chunk value 0 n)) flushes (entry_slot version chunk e) (λ x s. none_stored (chunk_word version chunk / 8 + 1) (entry_lines version) (entry_slot version chunk e) x s)
          ∙ read_entries version chunk value 0 n base e few inside (omega arith) (omega arith) (omega arith);
    }

-- the chunks read as the entries that were put into them
pub read_copy : (version : ℕ) (base fresh entries : List ℕ) → heap_word version ≤ length base → All (λ c. c < 16) fresh → AllPairs (λ c d. c ≢ d) fresh →
    ReadAs version (reading base (copy_events version fresh entries)) fresh entries
read_copy version base [] entries inside small once = tt
read_copy version base (chunk ∷ chunks) entries inside small once =
    let n = (layout_of version).chunk_entries in
    let value : ℕ → ℕ = λ e. get_or entries e 0 in
    let first = fill_events version chunk value in
    let rest = copy_events version chunks (drop n entries) in
    let between = reading base first in
    let few = All-head (λ c. c < 16) chunk chunks small in
    let filled = read_fill version chunk value base few inside in
    let size : length between ≡ length base = length-reading base first in
    let here : ReadsAs version (reading between rest) chunk value = record {
      each = λ e below.
          reading-other between rest (entry_slot version chunk e) (λ x s.
          let among = stored_copy version chunks (drop n entries) (entry_slot version chunk e) x s in
          let same = entry_slot-same version chunk (get_or chunks among.index 0) e among.entry.entry below among.entry.below among.entry.place in
          once 0 (suc among.index) 0 (omega arith) (omega (arith, among.inside)) same.0)
          ∙ filled.each e below;
    } in
    let later : ReadAs version (reading between rest) chunks (drop n entries) =
    read_copy version between chunks (drop n entries) (omega (arith, size)) (All-tail (λ c. c < 16) chunk chunks small) (λ i j d less within. once (suc i) (suc j) d (omega arith) (omega arith)) in
    subst (λ ws. ReadAs version ws (chunk ∷ chunks) entries) (sym (reading-append base first rest)) (here, later)

-- the entries among the first n of a list that has none that is 0
entries_below-list : (xs : List ℕ) (n : ℕ) → All (λ w. w ≢ 0) xs → entries_below (λ e. get_or xs e 0) n ≡ take n xs
entries_below-list xs zero some = refl
entries_below-list xs (suc n) some = ⊎_elim
    (λ (inside : n < length xs).
    ap (λ ys. ys ++ entry_or_none (get_or xs n 0)) (entries_below-list xs n some)
    ∙ ap (λ b. take n xs ++ cond b [] (get_or xs n 0 ∷ [])) (ne_eqb (get_or xs n 0) 0 (All-get_or (λ w. w ≢ 0) xs n 0 inside some))
    ∙ sym (take-suc xs n 0 inside))
    (λ (past : length xs ≤ n).
    ap (λ ys. ys ++ entry_or_none (get_or xs n 0)) (entries_below-list xs n some)
    ∙ ap (λ w. take n xs ++ entry_or_none w) (get_or_past xs n 0 past)
    ∙ append-nil (take n xs)
    ∙ take_all n xs past
    ∙ sym (take_all (suc n) xs (omega arith)))
    (cases_lt n (length xs))

none_left : (xs : List ℕ) → length xs ≤ 0 → [] ≡ xs
none_left [] h = refl
none_left (x ∷ xs) h = absurd (omega arith)

read_chunk : (version : ℕ) (words : List ℕ) (chunk : ℕ) (entries : List ℕ) → ReadsAs version words chunk (λ e. get_or entries e 0) → All (λ w. w ≢ 0) entries → chunk_log version words chunk ≡ take (layout_of version).chunk_entries entries
unfolding chunk_log
read_chunk version words chunk entries reads some =
    entries_below-same (λ e. get_or entries e 0) (λ e. word_at words (entry_slot version chunk e)) (layout_of version).chunk_entries reads.each
    ∙ entries_below-list entries (layout_of version).chunk_entries some

-- the log that is read off the chunks
pub read_log : (version : ℕ) (words fresh entries : List ℕ) → ReadAs version words fresh entries → All (λ w. w ≢ 0) entries → length entries ≤ (layout_of version).chunk_entries * length fresh →
    flat_map (chunk_log version words) fresh ≡ entries
read_log version words [] entries reads some fits = none_left entries (omega arith)
read_log version words (chunk ∷ chunks) entries reads some fits =
    let n = (layout_of version).chunk_entries in
    ap (λ xs. xs ++ flat_map (chunk_log version words) chunks) (read_chunk version words chunk entries reads.0 some)
    ∙ ap (λ xs. take n entries ++ xs) (read_log version words chunks (drop n entries) reads.1 (All-drop (λ w. w ≢ 0) n entries some) (omega (arith, length-drop n entries)))
    ∙ take-append-drop n entries

-- such a word is not 0
pub valid_some : (first granules word : ℕ) → IsValid first granules word → word ≢ 0
valid_some first granules word valid none = log_word-some valid.0 (sym valid.1.word ∙ none)

-- a chunk that reads as valid entries is well formed
pub chunk_read : (version granules : ℕ) (words : List ℕ) (chunk : ℕ) (entries : List ℕ) → ReadsAs version words chunk (λ e. get_or entries e 0) → All (IsValid (layout_of version).first_granule granules) entries →
    IsChunk version granules words chunk
chunk_read version granules words chunk entries reads valid =
    let first = (layout_of version).first_granule in
    record {
      entries = λ place below some. ⊎_elim
          (λ (inside : place < length entries).
          let found : IsValid first granules (get_or entries place 0) = All-get_or (IsValid first granules) entries place 0 inside valid in
          subst (IsValid first granules) (sym (reads.each place below)) found)
          (λ (past : length entries ≤ place). absurd (some (reads.each place below ∙ get_or_past entries place 0 past)))
          (cases_lt place (length entries));
      packed = λ place later behind below none. ⊎_elim
          (λ (inside : place < length entries).
          let found : IsValid first granules (get_or entries place 0) = All-get_or (IsValid first granules) entries place 0 inside valid in
          absurd (valid_some first granules (get_or entries place 0) found (sym (reads.each place (omega arith)) ∙ none)))
          (λ (past : length entries ≤ place). reads.each later below ∙ get_or_past entries later 0 (omega arith))
          (cases_lt place (length entries));
    }

-- each of the chunks is well formed
pub chunks_read : (version granules : ℕ) (words fresh entries : List ℕ) → ReadAs version words fresh entries → All (IsValid (layout_of version).first_granule granules) entries → All (IsChunk version granules words) fresh
chunks_read version granules words [] entries reads valid = All-nil (IsChunk version granules words)
chunks_read version granules words (chunk ∷ chunks) entries reads valid =
    let n = (layout_of version).chunk_entries in
    All-cons (IsChunk version granules words) chunk chunks (chunk_read version granules words chunk entries reads.0 valid)
    (chunks_read version granules words chunks (drop n entries) reads.1 (All-drop (IsValid (layout_of version).first_granule granules) n entries valid))
