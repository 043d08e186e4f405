-- The log after a store.
use Rattle.std.proofs.Common.{◌≡◌, ◌≢◌, ◌<◌, ◌≤◌, ◌⊎◌, ⊎_elim, ℕ, List, [], ◌∷◌, ◌++◌, length, get_or, refl, sym, ap, ◌∙◌, arith, append_assoc, append-nil, flat_map}
use Rattle.std.specs.List.{All}
use Rattle.std.proofs.lemmas.List.Elements.{All-weaker}
use Rattle.std.proofs.lemmas.List.Concat.{flat_map-append}
use Rattle.pmem_lines.specs.Words.{word_at, put_word}
use Rattle.pmem_lines.proofs.Words.{word_at-put_same, word_at-put_other}
use Rattle.pool_layout.specs.Layout.{layout_of}
use Rattle.pool_layout.specs.Places.{fields_word, directory_word, log_start, entry_slot, heap_word}
use Rattle.pool_layout.specs.Header.{version_field, version_in}
use Rattle.image_tables.specs.Log.{active_chunks, chunk_log, log_of}
use Rattle.image_tables.proofs.Chunks.{entries_below-same, entries_below-put, few_chunks, flat_map-same}
use Rattle.image_tables.proofs.Places.{log_start-low, entry_slot-low, entry_slot-high, entry_slot-same}

-- the words of a chunk's entries are the same
pub record SameChunk (version : ℕ) (words new : List ℕ) (chunk : ℕ) : Type 0 where
  pub each : (entry : ℕ) → entry < (layout_of version).chunk_entries → word_at new (entry_slot version chunk entry) ≡ word_at words (entry_slot version chunk entry)

pub chunk_log-same : (version : ℕ) (words new : List ℕ) (chunk : ℕ) → SameChunk version words new chunk → chunk_log version new chunk ≡ chunk_log version words chunk
unfolding chunk_log
chunk_log-same version words new chunk same =
    entries_below-same (λ e. word_at words (entry_slot version chunk e)) (λ e. word_at new (entry_slot version chunk e)) (layout_of version).chunk_entries same.each

-- the words that the log is read off are the same
pub record SameLog (words new : List ℕ) : Type 0 where
  pub fields : word_at new fields_word ≡ word_at words fields_word
  pub directory : word_at new directory_word ≡ word_at words directory_word
  pub chunks : All (SameChunk (version_in words) words new) (active_chunks (word_at words directory_word))

pub log_of-same : (words new : List ℕ) → SameLog words new → log_of new ≡ log_of words
unfolding log_of
log_of-same words new same =
    ap (λ w. flat_map (chunk_log (version_field w) new) (active_chunks (word_at new directory_word))) same.fields
    ∙ ap (λ w. flat_map (chunk_log (version_in words) new) (active_chunks w)) same.directory
    ∙ flat_map-same (chunk_log (version_in words) words) (chunk_log (version_in words) new) (active_chunks (word_at words directory_word))
    (All-weaker (SameChunk (version_in words) words new) (λ c. chunk_log (version_in words) new c ≡ chunk_log (version_in words) words c)
    (λ c s. chunk_log-same (version_in words) words new c s) (active_chunks (word_at words directory_word)) same.chunks)

-- a word that the log is not read off
pub record IsOffLog (words : List ℕ) (k : ℕ) : Type 0 where
  pub fields : k ≢ fields_word
  pub directory : k ≢ directory_word
  pub place : (k < log_start (version_in words)) ⊎ (heap_word (version_in words) ≤ k)

-- a store to such a word
pub SameLog-elsewhere : (words : List ℕ) (k v : ℕ) → IsOffLog words k → SameLog words (put_word words k v)
SameLog-elsewhere words k v off = record {
  fields = word_at-put_other words k fields_word v (λ e. off.fields (sym e));
  directory = word_at-put_other words k directory_word v (λ e. off.directory (sym e));
  chunks = All-weaker (λ c. c < 16) (SameChunk (version_in words) words (put_word words k v))
      (λ c few. record {
        each = λ e below. word_at-put_other words k (entry_slot (version_in words) c e) v (λ same. ⊎_elim
            (λ (low : k < log_start (version_in words)). omega (arith, same, low, entry_slot-low (version_in words) c e))
            (λ (high : heap_word (version_in words) ≤ k). omega (arith, same, high, entry_slot-high (version_in words) c e few below))
            off.place);
      })
      (active_chunks (word_at words directory_word)) (few_chunks (word_at words directory_word));
}

pub log_of-elsewhere : (words : List ℕ) (k v : ℕ) → IsOffLog words k → log_of (put_word words k v) ≡ log_of words
log_of-elsewhere words k v off = log_of-same words (put_word words k v) (SameLog-elsewhere words k v off)

-- words that differ in the entries of one chunk alone
pub record SameButChunk (words new : List ℕ) (chunk : ℕ) : Type 0 where
  pub each : (k : ℕ) → ((entry : ℕ) → entry < (layout_of (version_in words)).chunk_entries → entry_slot (version_in words) chunk entry ≢ k) → word_at new k ≡ word_at words k

-- stores to a chunk that is not active
pub log_of-inactive : (words new : List ℕ) (chunk : ℕ) → All (λ c. c ≢ chunk) (active_chunks (word_at words directory_word)) → SameButChunk words new chunk → log_of new ≡ log_of words
log_of-inactive words new chunk inactive same =
    let version = version_in words in
    let behind = log_start-low version in
    log_of-same words new (record {
      fields = same.each fields_word (λ e below is. omega (arith, is, behind, entry_slot-low version chunk e));
      directory = same.each directory_word (λ e below is. omega (arith, is, behind, entry_slot-low version chunk e));
      chunks = All-weaker (λ c. c ≢ chunk) (SameChunk version words new)
          (λ c apart. record { each = λ e below. same.each (entry_slot version c e) (λ f within is. apart (sym (entry_slot-same version chunk c f e within below is).0)) })
          (active_chunks (word_at words directory_word)) inactive;
    })

-- a store to an entry of the log changes neither the fields nor the directory, and no other entry
pub record IsEntryStore (words new : List ℕ) (chunk entry : ℕ) : Type 0 where
  pub fields : word_at new fields_word ≡ word_at words fields_word
  pub directory : word_at new directory_word ≡ word_at words directory_word
  pub chunks : (c : ℕ) → c ≢ chunk → SameChunk (version_in words) words new c
  pub entries : (e : ℕ) → e < (layout_of (version_in words)).chunk_entries → e ≢ entry → word_at new (entry_slot (version_in words) chunk e) ≡ word_at words (entry_slot (version_in words) chunk e)

pub entry_store : (words : List ℕ) (chunk entry v : ℕ) → entry < (layout_of (version_in words)).chunk_entries → IsEntryStore words (put_word words (entry_slot (version_in words) chunk entry) v) chunk entry
entry_store words chunk entry v below =
    let version = version_in words in
    let low = entry_slot-low version chunk entry in
    let behind = log_start-low version in
    let other = λ (i : ℕ) (apart : i ≢ entry_slot version chunk entry). word_at-put_other words (entry_slot version chunk entry) i v apart in
    record {
      fields = other fields_word (λ e. omega (arith, e, low, behind));
      directory = other directory_word (λ e. omega (arith, e, low, behind));
      chunks = λ c apart. record { each = λ e within. other (entry_slot version c e) (λ same. apart (entry_slot-same version c chunk e entry within below same).0) };
      entries = λ e within apart. other (entry_slot version chunk e) (λ same. apart (entry_slot-same version chunk chunk e entry within below same).1);
    }

-- the last active chunk, and an entry of it from which on all are free
pub record IsFront (words : List ℕ) (before : List ℕ) (chunk entry : ℕ) : Type 0 where
  pub chunks : active_chunks (word_at words directory_word) ≡ before ++ chunk ∷ []
  pub once : All (λ c. c ≢ chunk) before
  pub below : entry < (layout_of (version_in words)).chunk_entries
  pub free : (e : ℕ) → entry ≤ e → e < (layout_of (version_in words)).chunk_entries → word_at words (entry_slot (version_in words) chunk e) ≡ 0
  pub inside : entry_slot (version_in words) chunk entry < length words

-- a store to that entry
pub log_of-appended : (words before : List ℕ) (chunk entry v : ℕ) → IsFront words before chunk entry → v ≢ 0 →
    log_of (put_word words (entry_slot (version_in words) chunk entry) v) ≡ log_of words ++ v ∷ []
unfolding log_of chunk_log
log_of-appended words before chunk entry v front some =
    let version = version_in words in
    let k = entry_slot version chunk entry in
    let new = put_word words k v in
    let stored = entry_store words chunk entry v front.below in
    let old : All (λ c. chunk_log version new c ≡ chunk_log version words c) before =
    All-weaker (λ c. c ≢ chunk) (λ c. chunk_log version new c ≡ chunk_log version words c)
    (λ c apart. chunk_log-same version words new c (stored.chunks c apart))
    before front.once in
    let last : chunk_log version new chunk ≡ chunk_log version words chunk ++ v ∷ [] =
    entries_below-put (λ e. word_at words (entry_slot version chunk e)) (λ e. word_at new (entry_slot version chunk e)) entry (layout_of version).chunk_entries v front.below some
    (word_at-put_same words k k v refl front.inside)
    stored.entries front.free in
    ap (λ w. flat_map (chunk_log (version_field w) new) (active_chunks (word_at new directory_word))) stored.fields
    ∙ ap (λ w. flat_map (chunk_log version new) (active_chunks w)) stored.directory
    ∙ ap (flat_map (chunk_log version new)) front.chunks
    ∙ flat_map-append (chunk_log version new) before (chunk ∷ [])
    ∙ ap (λ xs. xs ++ (chunk_log version new chunk ++ [])) (flat_map-same (chunk_log version words) (chunk_log version new) before old)
    ∙ ap (λ xs. flat_map (chunk_log version words) before ++ xs) (append-nil (chunk_log version new chunk) ∙ last)
    ∙ sym (append_assoc (flat_map (chunk_log version words) before) (chunk_log version words chunk) (v ∷ []))
    ∙ ap (λ xs. xs ++ v ∷ []) (
    ap (λ xs. flat_map (chunk_log version words) before ++ xs) (sym (append-nil (chunk_log version words chunk)))
    ∙ sym (flat_map-append (chunk_log version words) before (chunk ∷ []))
    ∙ ap (flat_map (chunk_log version words)) (sym front.chunks))

-- a store of the directory: the log is read off the chunks that it names now
pub log_of-directory : (words : List ℕ) (directory : ℕ) → directory_word < length words →
    log_of (put_word words directory_word directory) ≡ flat_map (chunk_log (version_in words) words) (active_chunks directory)
unfolding log_of
log_of-directory words directory inside =
    let new = put_word words directory_word directory in
    let version = version_in words in
    let behind = log_start-low version in
    ap (λ w. flat_map (chunk_log (version_field w) new) (active_chunks (word_at new directory_word))) (word_at-put_other words directory_word fields_word directory (λ e. omega arith))
    ∙ ap (λ w. flat_map (chunk_log version new) (active_chunks w)) (word_at-put_same words directory_word directory_word directory refl inside)
    ∙ flat_map-same (chunk_log version words) (chunk_log version new) (active_chunks directory) (λ k d below. let c = get_or (active_chunks directory) k d in
    chunk_log-same version words new c (record { each = λ e under. word_at-put_other words directory_word (entry_slot version c e) directory (λ is. omega (arith, is, behind, entry_slot-low version c e)) }))

-- a log reads the same where the front words stay and those of the chunks' entries
pub same_log : (words new : List ℕ) → ((k : ℕ) → k < 64 → word_at new k ≡ word_at words k) →
    ((c e : ℕ) → c < 16 → e < (layout_of (version_in words)).chunk_entries → word_at new (entry_slot (version_in words) c e) ≡ word_at words (entry_slot (version_in words) c e)) → SameLog words new
same_log words new front entries = grind (arith, All-weaker, few_chunks)
