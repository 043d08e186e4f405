-- An entry that is put at the next place of a log.
use Rattle.std.proofs.Common.{◌≡◌, ◌≢◌, ◌<◌, ◌≤◌, ◌+◌, ◌-◌, ◌*◌, ◌/◌, ◌++◌, ⊎_elim, inl, inr, ℕ, Option, Some, None, List, [], ◌∷◌, length, take, refl, sym, ap, ◌∙◌, subst, arith}
use Rattle.book_log.proofs.Common.{cases_eq, take_more, take_all, word_at, put_word, word_at-put_same, word_at-put_other, length-put_word, layout_of, fields_word, directory_word, entry_slot, version_field, version_in, active_chunks, extent_at}
use Rattle.durable_steps.specs.Steps.{IsOldOrNewWord}
use Rattle.image_tables.proofs.Places.{log_start-low, entry_slot-low, entry_slot-high, entry_slot-same}
use Rattle.book_log.specs.declared.entry.LogEntry.{LogEntry}
use Rattle.book_log.specs.declared.entry.LogEntry.TheVariants.{Large, Slab, Tomb}
use Rattle.book_log.specs.declared.place.EntryPlace.{EntryPlace}
use Rattle.book_log.specs.Entry.{log_word, FitsWord, IsInHeap, IsEntryWord, SaysOf, start_of}
use Rattle.book_log.specs.Log.{IsLog, IsChunk, IsNext, logged, with_entry}
use Rattle.book_log.specs.Book.{HasLog, AreWithin, IsWithin, IsFull, IsNextOf, CanTake, IsPlaceAfter, IsEntryOrNot, IsInLog, chunks_of, last_chunk}
use Rattle.book_log.proofs.Places.{of_last, last_chunk-few, entry_slot-within, within_same, last_chunk-same}
use Rattle.book_log.proofs.Appending.{IsAppend, front_of, log_word-some, extent_at-entry, log_appended}

-- an entry in the heap of a small arena fits the word
pub fits_in_heap : (first granules : ℕ) (entry : LogEntry) → granules ≤ 4096 → IsInHeap first granules entry → FitsWord entry
fits_in_heap first granules (Large start size) small valid = (omega (arith, valid.1, valid.2), omega (arith, valid.1, valid.2))
fits_in_heap first granules (Slab start) small valid = omega (arith, valid.1)
fits_in_heap first granules (Tomb start) small valid = omega (arith, valid.1)

-- it names one of its granules
pub start_in_heap : (first granules : ℕ) (entry : LogEntry) → IsInHeap first granules entry → start_of entry < granules
start_in_heap first granules (Large start size) valid = omega (arith, valid.1, valid.2)
start_in_heap first granules (Slab start) valid = omega (arith, valid.1)
start_in_heap first granules (Tomb start) valid = valid.1

-- the word of an entry that may go there
pub valid_of : {granules : ℕ} {words : List ℕ} {place : EntryPlace} {entry : LogEntry} → CanTake granules words place entry →
    IsEntryWord (layout_of (version_in words)).first_granule granules (log_word entry) entry
valid_of {granules} {words} {place} {entry} take = record {
  word = refl;
  fits = fits_in_heap (layout_of (version_in words)).first_granule granules entry take.small take.valid;
  in_heap = take.valid;
}

-- the chunks before the last
abbrev pub front_chunks : List ℕ → List ℕ
front_chunks words = take (length (chunks_of words) - 1) (chunks_of words)

-- they and the last are all
pub front_and_last : (words : List ℕ) (chunk : ℕ) → 1 ≤ length (chunks_of words) → chunk ≡ last_chunk words → chunks_of words ≡ front_chunks words ++ chunk ∷ []
front_and_last words chunk some is =
    let chunks = chunks_of words in
    let n = length chunks - 1 in
    sym (take_all (n + 1) chunks (omega arith)) ∙ take_more chunks n 0 (omega arith) ∙ ap (λ c. front_chunks words ++ c ∷ []) (sym is)

pub append_of : {granules : ℕ} {words : List ℕ} {place : EntryPlace} {entry : LogEntry} → CanTake granules words place entry →
    IsAppend granules words (front_chunks words) place.chunk place.entry
append_of {granules} {words} {place} {entry} can = record {
  log = subst (IsLog granules words) (front_and_last words place.chunk can.log.directory.some can.next.0) can.log;
  next = can.next.1;
  inside =
      let last = of_last (IsWithin words) words can.log.directory.some can.inside in
      let same : IsWithin words place.chunk = subst (IsWithin words) (sym can.next.0) last in
      omega (arith, entry_slot-within (version_in words) place.chunk place.entry can.next.1.below, same);
}

-- the place lies in the log
pub place_in_log : {granules : ℕ} {words : List ℕ} {place : EntryPlace} {entry : LogEntry} → CanTake granules words place entry →
    IsInLog (version_in words) (entry_slot (version_in words) place.chunk place.entry)
place_in_log {granules} {words} {place} {entry} can =
    let few : place.chunk < 16 = subst (λ c. c < 16) (sym can.next.0) (last_chunk-few words can.log.directory.some) in
    record {
      low = entry_slot-low (version_in words) place.chunk place.entry;
      high = entry_slot-high (version_in words) place.chunk place.entry few can.next.1.below;
    }

-- the words with the entry at its place
abbrev pub put_entry_word : List ℕ → EntryPlace → LogEntry → List ℕ
put_entry_word words place entry = put_word words (entry_slot (version_in words) place.chunk place.entry) (log_word entry)

-- header line
other_word : (words : List ℕ) (place : EntryPlace) (entry : LogEntry) (i : ℕ) → i ≤ 2048 → word_at (put_entry_word words place entry) i ≡ word_at words i
other_word words place entry i low =
    let version = version_in words in
    let k = entry_slot version place.chunk place.entry in
    let apart : i ≢ k = λ e. omega (arith, e, entry_slot-low version place.chunk place.entry, log_start-low version) in
    word_at-put_other words k i (log_word entry) apart

pub version_put : (words : List ℕ) (place : EntryPlace) (entry : LogEntry) → version_in (put_entry_word words place entry) ≡ version_in words
version_put words place entry = ap version_field (other_word words place entry fields_word (omega arith))

pub chunks_put : (words : List ℕ) (place : EntryPlace) (entry : LogEntry) → chunks_of (put_entry_word words place entry) ≡ chunks_of words
chunks_put words place entry = ap active_chunks (other_word words place entry directory_word (omega arith))

pub log_put : {granules : ℕ} {words : List ℕ} {place : EntryPlace} {entry : LogEntry} → CanTake granules words place entry → HasLog granules (put_entry_word words place entry)
log_put {granules} {words} {place} {entry} can =
    let all = front_and_last words place.chunk can.log.directory.some can.next.0 in
    subst (IsLog granules (put_entry_word words place entry)) (sym (chunks_put words place entry ∙ all))
    (log_appended granules words (front_chunks words) place.chunk place.entry (log_word entry) entry (append_of can) (valid_of can))

pub within_put : {granules : ℕ} {words : List ℕ} {place : EntryPlace} {entry : LogEntry} → CanTake granules words place entry → AreWithin (put_entry_word words place entry)
within_put {granules} {words} {place} {entry} can =
    within_same words (put_entry_word words place entry) (version_put words place entry) (chunks_put words place entry)
    (length-put_word words (entry_slot (version_in words) place.chunk place.entry) (log_word entry)) can.inside

pub extents_put : {granules : ℕ} {words : List ℕ} {place : EntryPlace} {entry : LogEntry} → CanTake granules words place entry → SaysOf (log_word entry) entry →
    (start : ℕ) → extent_at (put_entry_word words place entry) start ≡ with_entry (extent_at words) entry start
extents_put {granules} {words} {place} {entry} can says start =
    extent_at-entry words (front_chunks words) place.chunk place.entry (log_word entry) entry start (front_of (append_of can)) (log_word-some entry) says

-- the entries of the chunk
put_here : {granules : ℕ} {words : List ℕ} {place : EntryPlace} {entry : LogEntry} → CanTake granules words place entry →
    logged (version_in words) (put_entry_word words place entry) place.chunk place.entry ≡ log_word entry
put_here {granules} {words} {place} {entry} can =
    let k = entry_slot (version_in words) place.chunk place.entry in
    word_at-put_same words k k (log_word entry) refl (append_of can).inside

put_there : {granules : ℕ} {words : List ℕ} {place : EntryPlace} {entry : LogEntry} (other : ℕ) → CanTake granules words place entry →
    other < (layout_of (version_in words)).chunk_entries → other ≢ place.entry →
    logged (version_in words) (put_entry_word words place entry) place.chunk other ≡ logged (version_in words) words place.chunk other
put_there {granules} {words} {place} {entry} other can below apart =
    let version = version_in words in
    let k = entry_slot version place.chunk place.entry in
    word_at-put_other words k (entry_slot version place.chunk other) (log_word entry) (λ same. apart (entry_slot-same version place.chunk place.chunk other place.entry below can.next.1.below same).1)

-- up to the place and with it the chunk has no 0
put_some : {granules : ℕ} {words : List ℕ} {place : EntryPlace} {entry : LogEntry} (other : ℕ) → CanTake granules words place entry →
    other ≤ place.entry → logged (version_in words) (put_entry_word words place entry) place.chunk other ≢ 0
put_some {granules} {words} {place} {entry} other can within none = ⊎_elim
    (λ (same : other ≡ place.entry). log_word-some entry (sym (ap (logged (version_in words) (put_entry_word words place entry) place.chunk) same ∙ put_here can) ∙ none))
    (λ (apart : other ≢ place.entry). can.next.1.first other (omega arith) (sym (put_there other can (omega (arith, can.next.1.below)) apart) ∙ none))
    (cases_eq other place.entry)

pub next_put : {granules : ℕ} {words : List ℕ} {place : EntryPlace} {entry : LogEntry} (next : Option EntryPlace) → CanTake granules words place entry →
    IsPlaceAfter (layout_of (version_in words)).chunk_entries place next → IsNextOf (put_entry_word words place entry) next
next_put {granules} {words} {place} {entry} None can after =
    let new = put_entry_word words place entry in
    let last : place.chunk ≡ last_chunk new = can.next.0 ∙ sym (last_chunk-same words new (chunks_put words place entry)) in
    let full : IsFull (version_in words) new place.chunk = record { each = λ other below. put_some other can (omega arith) } in
    subst (λ v. IsFull v new (last_chunk new)) (sym (version_put words place entry)) (subst (IsFull (version_in words) new) last full)
next_put {granules} {words} {place} {entry} (Some next) can after =
    let new = put_entry_word words place entry in
    let version = version_in words in
    let last : next.chunk ≡ last_chunk new = after.0 ∙ can.next.0 ∙ sym (last_chunk-same words new (chunks_put words place entry)) in
    let below : place.entry + 1 < (layout_of version).chunk_entries = omega (arith, after.1, after.2) in
    let apart : place.entry + 1 ≢ place.entry = λ e. omega arith in
    let packed : IsChunk version granules words place.chunk = subst (IsChunk version granules words) (sym can.next.0) (of_last (IsChunk version granules words) words can.log.directory.some can.log.entries) in
    let is : IsNext version new place.chunk (place.entry + 1) = record {
      below = below;
      free = put_there (place.entry + 1) can below apart ∙ packed.packed place.entry (place.entry + 1) (omega arith) below can.next.1.free;
      first = λ earlier before. put_some earlier can (omega arith);
    } in
    (last, subst (λ v. IsNext v new next.chunk next.entry) (sym (version_put words place entry)) (subst (λ c. IsNext version new c next.entry) (sym after.0) (subst (IsNext version new place.chunk) (sym after.1) is)))

eight_of : (k : ℕ) → 8 * k / 8 ≡ k
eight_of k = omega arith

-- what a crash leaves of it
pub crash_put : {granules : ℕ} {words : List ℕ} {place : EntryPlace} {entry : LogEntry} → CanTake granules words place entry → SaysOf (log_word entry) entry →
    (image : List ℕ) → IsOldOrNewWord words (8 * entry_slot (version_in words) place.chunk place.entry) (log_word entry) image →
    IsEntryOrNot granules words (entry_slot (version_in words) place.chunk place.entry) entry image
crash_put {granules} {words} {place} {entry} can says image crash =
    let k = entry_slot (version_in words) place.chunk place.entry in
    ⊎_elim
    (λ (old : image ≡ words). subst (IsEntryOrNot granules words k entry) (sym old) (record {
      is = inl refl;
      others = λ other apart. refl;
      log = can.log;
      extents = inl (λ start. refl);
    }))
    (λ (new : image ≡ put_word words (8 * k / 8) (log_word entry)).
    subst (IsEntryOrNot granules words k entry) (sym (new ∙ ap (λ i. put_word words i (log_word entry)) (eight_of k))) (record {
      is = inr refl;
      others = λ other apart. word_at-put_other words k other (log_word entry) apart;
      log = log_put can;
      extents = inr (extents_put can says);
    }))
    crash.is

-- what is stored, and where
pub record IsPut (words : List ℕ) (place : EntryPlace) (entry : LogEntry) (at value : ℕ) : Type 0 where
  pub at_is : at ≡ 8 * entry_slot (version_in words) place.chunk place.entry
  pub value_is : value ≡ log_word entry
  pub says : SaysOf value entry

pub says_put : {words : List ℕ} {place : EntryPlace} {entry : LogEntry} {at value : ℕ} → IsPut words place entry at value → SaysOf (log_word entry) entry
says_put {words} {place} {entry} {at} {value} put = subst (λ v. SaysOf v entry) put.value_is put.says

pub words_put : {words : List ℕ} {place : EntryPlace} {entry : LogEntry} {at value : ℕ} → IsPut words place entry at value → put_word words (at / 8) value ≡ put_entry_word words place entry
words_put {words} {place} {entry} {at} {value} put =
    let k = entry_slot (version_in words) place.chunk place.entry in
    ap (λ a. put_word words (a / 8) value) put.at_is ∙ ap (λ i. put_word words i value) (eight_of k) ∙ ap (put_word words k) put.value_is
