-- Entries go into chunks that are not active, and then the directory names chunks whose log has the same live extents:
-- what is kept at each crash.
use Rattle.std.proofs.Common.{append_assoc, ◌≡◌, ◌≢◌, ◌*◌, ◌<◌, ◌≤◌, ◌⊎◌, ⊎_elim, inl, ℕ, List, [], ◌∷◌, ◌++◌, length, get_or, refl, sym, ap, ◌∙◌, subst, arith, flat_map, None}
use Rattle.log_room.proofs.Common.{All, AllPairs, Contains, All-append, All-weaker, All-contains, All-contains_itself, Fence, word_at, put_word, word_at-put_same, word_at-put_other, length-put_word, reading, IsStored, IsQuiet, CrashOnly, length-reading, reading-append, by_blend, then, weaker, IsQuiet-append, layout_of, layout_rules, fields_word, directory_word, log_start, entry_slot, heap_word, version_field, version_in, active_chunks, chunk_log, extent_behind, extent_at, log_start-low, entry_slot-low, entry_slot-high, entry_slot-same, extent_at-same, extent_at-directory, IsValid, IsEntryWord, directory_of, IsDirectory, IsChunk, IsLog, active_chunks-directory}
use Rattle.std.proofs.lemmas.List.Concat.{flat_map-append}
use Rattle.image_tables.proofs.Chunks.{flat_map-same}
use Rattle.image_tables.proofs.Logs.{SameChunk, chunk_log-same}
use Rattle.durable_steps.specs.Steps.{word_events}
use Rattle.durable_steps.proofs.Steps.{word_crash, IsQuiet-word}
use Rattle.book_log.proofs.Books.{HasLog-of}
use Rattle.log_room.specs.Copies.{copy_events, switch_events}
use Rattle.log_room.specs.Room.{KeepsLog}
use Rattle.log_room.proofs.Events.{reading-other, IsStored-append}
use Rattle.log_room.proofs.Copies.{IsEntryAmong, stored_copy, quiet_copy}
use Rattle.log_room.proofs.Filled.{ReadAs, valid_some, read_copy, read_log, chunks_read}

-- a log whose directory is about to name other chunks: some of the active ones, and fresh ones that get entries
pub record IsSwitch (granules : ℕ) (words active kept fresh entries : List ℕ) : Type 0 where
  pub log : IsLog granules words active
  pub inside : heap_word (version_in words) ≤ length words
  pub small : All (λ c. c < 16) fresh
  pub once : AllPairs (λ c d. c ≢ d) fresh
  pub apart : All (λ c. All (λ d. d ≢ c) active) fresh
  pub among : All (Contains active) kept
  pub directory : IsDirectory (directory_of (kept ++ fresh)) (kept ++ fresh)
  pub valid : All (IsValid (layout_of (version_in words)).first_granule granules) entries
  pub fits : length entries ≤ (layout_of (version_in words)).chunk_entries * length fresh
  pub extents : (start : ℕ) → extent_behind (flat_map (chunk_log (version_in words) words) kept ++ entries) start None ≡ extent_at words start

-- words that differ in entries of some chunks alone
pub record SameButChunks (words new fresh : List ℕ) : Type 0 where
  pub same_length : length new ≡ length words
  pub each : (k : ℕ) → (IsEntryAmong (version_in words) fresh k → ⊥) → word_at new k ≡ word_at words k

-- no word outside the log is an entry's
off_log : (version : ℕ) (fresh : List ℕ) (k : ℕ) → All (λ c. c < 16) fresh → (k < log_start version) ⊎ (heap_word version ≤ k) → IsEntryAmong version fresh k → ⊥
off_log version fresh k small outside among =
    let chunk = get_or fresh among.index 0 in
    let e = among.entry.entry in
    ⊎_elim
    (λ (low : k < log_start version). omega (arith, low, among.entry.place, entry_slot-low version chunk e))
    (λ (high : heap_word version ≤ k). omega (arith, high, among.entry.place, entry_slot-high version chunk e (small among.index 0 among.inside) among.entry.below))
    outside

-- nor is one of another chunk
off_chunks : (version : ℕ) (fresh : List ℕ) (chunk e : ℕ) → All (λ c. chunk ≢ c) fresh → e < (layout_of version).chunk_entries → IsEntryAmong version fresh (entry_slot version chunk e) → ⊥
off_chunks version fresh chunk e apart below among =
    apart among.index 0 among.inside (entry_slot-same version chunk (get_or fresh among.index 0) e among.entry.entry below among.entry.below among.entry.place).0

-- a chunk that none of several is
apart_from : (active fresh : List ℕ) (chunk : ℕ) → All (λ c. All (λ d. d ≢ c) active) fresh → Contains active chunk → All (λ c. chunk ≢ c) fresh
apart_from active fresh chunk apart among i d inside = All-contains (λ e. e ≢ get_or fresh i d) active chunk (apart i d inside) among

header_same : (granules : ℕ) (words active kept fresh entries new : List ℕ) → IsSwitch granules words active kept fresh entries → SameButChunks words new fresh →
    (word_at new fields_word ≡ word_at words fields_word) × (word_at new directory_word ≡ word_at words directory_word)
header_same granules words active kept fresh entries new switch same =
    let version = version_in words in
    let behind = log_start-low version in
    let low : directory_word < log_start version = omega (arith, behind) in
    (same.each fields_word (off_log version fresh fields_word switch.small (inl (omega (arith, low)))), same.each directory_word (off_log version fresh directory_word switch.small (inl low)))

-- the entries of an active chunk are the same
active_same : (granules : ℕ) (words active kept fresh entries new : List ℕ) → IsSwitch granules words active kept fresh entries → SameButChunks words new fresh → (chunk : ℕ) → Contains active chunk →
    SameChunk (version_in words) words new chunk
active_same granules words active kept fresh entries new switch same chunk among = record {
  each = λ e below. same.each (entry_slot (version_in words) chunk e) (off_chunks (version_in words) fresh chunk e (apart_from active fresh chunk switch.apart among) below);
}

-- a chunk whose words are the same is well formed
chunk_same : (version granules : ℕ) (words new : List ℕ) (chunk : ℕ) → SameChunk version words new chunk → IsChunk version granules words chunk → IsChunk version granules new chunk
chunk_same version granules words new chunk same is = record {
  entries = λ place below some.
      let e = same.each place below in
      let found = is.entries place below (λ none. some (e ∙ none)) in
      (found.0, subst (λ w. IsEntryWord (layout_of version).first_granule granules w found.0) (sym e) found.1);
  packed = λ place later behind below none. same.each later below ∙ is.packed place later behind below (sym (same.each place (omega arith)) ∙ none);
}

-- some active chunks are well formed still
chunks_same : (granules : ℕ) (words active kept fresh entries new chunks : List ℕ) → IsSwitch granules words active kept fresh entries → SameButChunks words new fresh → All (Contains active) chunks →
    All (IsChunk (version_in words) granules new) chunks
chunks_same granules words active kept fresh entries new chunks switch same among =
    All-weaker (Contains active) (IsChunk (version_in words) granules new)
    (λ c is. chunk_same (version_in words) granules words new c (active_same granules words active kept fresh entries new switch same c is) (All-contains (IsChunk (version_in words) granules words) active c switch.log.entries is))
    chunks among

-- while entries go into the fresh chunks, the log is the same
pub kept_before : (granules : ℕ) (words active kept fresh entries new : List ℕ) → IsSwitch granules words active kept fresh entries → SameButChunks words new fresh → KeepsLog granules words new
kept_before granules words active kept fresh entries new switch same =
    let version = version_in words in
    let header = header_same granules words active kept fresh entries new switch same in
    let named = active_chunks-directory (word_at words directory_word) active switch.log.directory in
    let All-active = All-contains_itself active in
    record {
      same_length = same.same_length;
      log = HasLog-of granules new active (record {
        directory = subst (λ w. IsDirectory w active) (sym header.1) switch.log.directory;
        entries = subst (λ w. All (IsChunk (version_field w) granules new) active) (sym header.0) (chunks_same granules words active kept fresh entries new active switch same All-active);
      });
      extents = λ start. extent_at-same words new start (record {
        fields = header.0;
        directory = header.1;
        chunks = subst (All (SameChunk version words new)) (sym named) (All-weaker (Contains active) (SameChunk version words new) (active_same granules words active kept fresh entries new switch same) active All-active);
      });
      others = λ k other outside. same.each k (off_log version fresh k switch.small outside);
    }

-- once the directory names the other chunks, the live extents are the same
pub kept_behind : (granules : ℕ) (words active kept fresh entries new : List ℕ) → IsSwitch granules words active kept fresh entries → SameButChunks words new fresh → ReadAs (version_in words) new fresh entries →
    KeepsLog granules words (put_word new directory_word (directory_of (kept ++ fresh)))
kept_behind granules words active kept fresh entries new switch same reads =
    let version = version_in words in
    let chunks = kept ++ fresh in
    let first = (layout_of version).first_granule in
    let header = header_same granules words active kept fresh entries new switch same in
    let last = put_word new directory_word (directory_of chunks) in
    let behind = log_start-low version in
    let place : directory_word < length new = omega (arith, same.same_length, switch.inside, behind, entry_slot-low version 0 0, entry_slot-high version 0 0 (omega arith) (omega (arith, some_entry version))) in
    let stays : (k : ℕ) → k ≢ directory_word → word_at last k ≡ word_at new k = λ k other. word_at-put_other new directory_word k (directory_of chunks) other in
    let fields : word_at last fields_word ≡ word_at words fields_word = stays fields_word (λ e. omega arith) ∙ header.0 in
    let here : word_at last directory_word ≡ directory_of chunks = word_at-put_same new directory_word directory_word (directory_of chunks) refl place in
    let put : (c : ℕ) → SameChunk version new last c = λ c. record { each = λ e below. stays (entry_slot version c e) (λ is. omega (arith, is, behind, entry_slot-low version c e)) } in
    let formed : All (IsChunk version granules new) chunks =
    All-append (IsChunk version granules new) kept fresh (chunks_same granules words active kept fresh entries new kept switch same switch.among) (chunks_read version granules new fresh entries reads switch.valid) in
    let some : All (λ w. w ≢ 0) entries = All-weaker (IsValid first granules) (λ w. w ≢ 0) (valid_some first granules) entries switch.valid in
    let old : flat_map (chunk_log version new) kept ≡ flat_map (chunk_log version words) kept =
    flat_map-same (chunk_log version words) (chunk_log version new) kept
    (All-weaker (Contains active) (λ c. chunk_log version new c ≡ chunk_log version words c) (λ c is. chunk_log-same version words new c (active_same granules words active kept fresh entries new switch same c is)) kept switch.among) in
    let whole : flat_map (chunk_log version new) chunks ≡ flat_map (chunk_log version words) kept ++ entries =
    flat_map-append (chunk_log version new) kept fresh
    ∙ ap (λ xs. xs ++ flat_map (chunk_log version new) fresh) old
    ∙ ap (λ xs. flat_map (chunk_log version words) kept ++ xs) (read_log version new fresh entries reads some switch.fits) in
    record {
      same_length = length-put_word new directory_word (directory_of chunks) ∙ same.same_length;
      log = HasLog-of granules last chunks (record {
        directory = subst (λ w. IsDirectory w chunks) (sym here) switch.directory;
        entries = subst (λ w. All (IsChunk (version_field w) granules last) chunks) (sym fields)
            (All-weaker (IsChunk version granules new) (IsChunk version granules last) (λ c is. chunk_same version granules new last c (put c) is) chunks formed);
      });
      extents = λ start.
          extent_at-directory new (directory_of chunks) start place
          ∙ ap (λ w. extent_behind (flat_map (chunk_log (version_field w) new) (active_chunks (directory_of chunks))) start None) header.0
          ∙ ap (λ cs. extent_behind (flat_map (chunk_log version new) cs) start None) (active_chunks-directory (directory_of chunks) chunks switch.directory)
          ∙ ap (λ xs. extent_behind xs start None) whole
          ∙ switch.extents start;
      others = λ k other outside. stays k other ∙ same.each k (off_log version fresh k switch.small outside);
    }
  where
    some_entry : (version : ℕ) → 0 < (layout_of version).chunk_entries
    some_entry version = (layout_rules version).some_entry

-- the crash

copy_stores : (version : ℕ) (fresh entries : List ℕ) (word value : ℕ) → IsStored (copy_events version fresh entries ++ Fence ∷ []) word value → IsEntryAmong version fresh word
copy_stores version fresh entries word value s =
    ⊎_elim (λ first. stored_copy version fresh entries word value first) (λ none. absurd none) (IsStored-append (copy_events version fresh entries) (Fence ∷ []) word value s)

-- once they have their entries, the fresh chunks alone have changed
pub copied_same : (words fresh entries : List ℕ) → SameButChunks words (reading words (copy_events (version_in words) fresh entries ++ Fence ∷ [])) fresh
copied_same words fresh entries =
    let events = copy_events (version_in words) fresh entries ++ Fence ∷ [] in
    record {
      same_length = length-reading words events;
      each = λ k off. reading-other words events k (λ v s. off (copy_stores (version_in words) fresh entries k v s));
    }

-- and they read as these entries
pub copied_reads : (granules : ℕ) (words active kept fresh entries : List ℕ) → IsSwitch granules words active kept fresh entries →
    ReadAs (version_in words) (reading words (copy_events (version_in words) fresh entries ++ Fence ∷ [])) fresh entries
copied_reads granules words active kept fresh entries switch =
    let version = version_in words in
    subst (λ ws. ReadAs version ws fresh entries) (sym (reading-append words (copy_events version fresh entries) (Fence ∷ []))) (read_copy version words fresh entries switch.inside switch.small switch.once)

-- the copies are durable before the directory is stored
switch_parts : (version : ℕ) (fresh entries chunks : List ℕ) → switch_events version fresh entries chunks ≡ copy_events version fresh entries ++ Fence ∷ [] ++ word_events (8 * directory_word) (directory_of chunks)
switch_parts version fresh entries chunks = sym (append_assoc (copy_events version fresh entries) (Fence ∷ []) (word_events (8 * directory_word) (directory_of chunks)))

-- what is read in the end
pub switch_reading : (words fresh entries chunks : List ℕ) → reading words (switch_events (version_in words) fresh entries chunks) ≡ put_word (reading words (copy_events (version_in words) fresh entries ++ Fence ∷ [])) directory_word (directory_of chunks)
switch_reading words fresh entries chunks = ap (reading words) (switch_parts (version_in words) fresh entries chunks) ∙ reading-append words (copy_events (version_in words) fresh entries ++ Fence ∷ []) (word_events (8 * directory_word) (directory_of chunks))

-- the live extents are the same in the end
pub switch_keeps : (granules : ℕ) (words active kept fresh entries : List ℕ) → IsSwitch granules words active kept fresh entries → KeepsLog granules words (reading words (switch_events (version_in words) fresh entries (kept ++ fresh)))
switch_keeps granules words active kept fresh entries switch =
    let new = reading words (copy_events (version_in words) fresh entries ++ Fence ∷ []) in
    subst (KeepsLog granules words) (sym (switch_reading words fresh entries (kept ++ fresh)))
    (kept_behind granules words active kept fresh entries new switch (copied_same words fresh entries) (copied_reads granules words active kept fresh entries switch))

-- nothing is left to chance in the end
pub switch_quiet : (version : ℕ) (fresh entries chunks : List ℕ) → IsQuiet (switch_events version fresh entries chunks)
switch_quiet version fresh entries chunks =
    subst IsQuiet (sym (switch_parts version fresh entries chunks)) (IsQuiet-append (copy_events version fresh entries ++ Fence ∷ []) (word_events (8 * directory_word) (directory_of chunks))
    (quiet_copy version fresh entries (Fence ∷ []) refl tt) (IsQuiet-word (8 * directory_word) (directory_of chunks)))

-- and at each crash
pub switch_crash : (granules : ℕ) (words active kept fresh entries : List ℕ) → IsSwitch granules words active kept fresh entries → CrashOnly words (switch_events (version_in words) fresh entries (kept ++ fresh)) (KeepsLog granules words)
switch_crash granules words active kept fresh entries switch =
    let version = version_in words in
    let chunks = kept ++ fresh in
    let copies = copy_events version fresh entries ++ Fence ∷ [] in
    let new = reading words copies in
    let same = copied_same words fresh entries in
    let before = kept_before granules words active kept fresh entries in
    let at_directory = 8 * directory_word in
    subst (λ es. CrashOnly words es (KeepsLog granules words)) (sym (switch_parts version fresh entries chunks))
    (then words copies (word_events at_directory (directory_of chunks)) (KeepsLog granules words)
    (quiet_copy version fresh entries (Fence ∷ []) refl tt)
    (by_blend words copies (KeepsLog granules words) (λ image blend. before image switch (record {
      same_length = blend.same_length;
      each = λ k off. ⊎_elim (λ old. old) (λ s. absurd (off (copy_stores version fresh entries k (word_at image k) s))) (blend.each k);
    })))
    (weaker new (word_events at_directory (directory_of chunks)) _ (KeepsLog granules words)
    (λ image left. ⊎_elim
    (λ (is : image ≡ new). subst (KeepsLog granules words) (sym is) (before new switch same))
    (λ is. subst (KeepsLog granules words) (sym is) (kept_behind granules words active kept fresh entries new switch same (copied_reads granules words active kept fresh entries switch)))
    left.is)
    (word_crash new at_directory (directory_of chunks))))

-- what is read in the end of the words outside the entries of the fresh chunks and the directory
pub switch_same : (words fresh entries chunks : List ℕ) (k : ℕ) → k ≢ directory_word → word_at (reading words (switch_events (version_in words) fresh entries chunks)) k
    ≡ word_at (reading words (copy_events (version_in words) fresh entries ++ Fence ∷ [])) k
switch_same words fresh entries chunks k other =
    ap (λ ws. word_at ws k) (switch_reading words fresh entries chunks)
    ∙ word_at-put_other (reading words (copy_events (version_in words) fresh entries ++ Fence ∷ [])) directory_word k (directory_of chunks) other
