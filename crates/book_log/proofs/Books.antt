-- What a log reads stays where its words do.
use Rattle.std.proofs.Common.{◌≡◌, ℕ, Option, Some, None, List, length, get_or, sym, ap, ◌∙◌, subst, arith}
use Rattle.book_log.proofs.Common.{All, word_at, put_word, length-put_word, directory_word, version_field, version_in, active_chunks, extent_at-same}
use Rattle.image_tables.proofs.Logs.{SameChunk, SameLog, IsOffLog, SameLog-elsewhere}
use Rattle.book_log.specs.declared.place.EntryPlace.{EntryPlace}
use Rattle.book_log.specs.Log.{IsDirectory, IsChunk, IsLog, IsNext}
use Rattle.book_log.specs.Book.{Book, Reads, HasLog, IsFull, IsNextOf, chunks_of, last_chunk}
use Rattle.book_log.proofs.Directories.{active_chunks-directory}
use Rattle.book_log.proofs.Places.{of_last, within_same, last_chunk-same}
use Rattle.book_log.proofs.Appending.{chunk_same}

-- a well-formed log is that of the chunks that its directory names
pub HasLog-of : (granules : ℕ) (words chunks : List ℕ) → IsLog granules words chunks → HasLog granules words
HasLog-of granules words chunks log = subst (IsLog granules words) (sym (active_chunks-directory (word_at words directory_word) chunks log.directory)) log

same_version : {words new : List ℕ} → SameLog words new → version_in new ≡ version_in words
same_version {words} {new} same = ap version_field same.fields

same_chunks : {words new : List ℕ} → SameLog words new → chunks_of new ≡ chunks_of words
same_chunks {words} {new} same = ap active_chunks same.directory

-- the log stays well formed
pub HasLog-same : (granules : ℕ) (words new : List ℕ) → SameLog words new → HasLog granules words → HasLog granules new
HasLog-same granules words new same log =
    let version = version_in words in
    let entries : All (IsChunk version granules new) (chunks_of words) = λ i d below.
    chunk_same version granules words new (get_or (chunks_of words) i d) (same.chunks i d below).each (log.entries i d below) in
    subst (IsLog granules new) (sym (same_chunks same)) (record {
      directory = subst (λ w. IsDirectory w (chunks_of words)) (sym same.directory) log.directory;
      entries = subst (λ v. All (IsChunk v granules new) (chunks_of words)) (sym (same_version same)) entries;
    })

full_same : (version : ℕ) (words new : List ℕ) (chunk : ℕ) → SameChunk version words new chunk → IsFull version words chunk → IsFull version new chunk
full_same version words new chunk same full = record { each = λ entry below none. full.each entry below (sym (same.each entry below) ∙ none) }

next_same : (version : ℕ) (words new : List ℕ) (chunk entry : ℕ) → SameChunk version words new chunk → IsNext version words chunk entry → IsNext version new chunk entry
next_same version words new chunk entry same next = record {
  below = next.below;
  free = same.each entry next.below ∙ next.free;
  first = λ earlier before none. next.first earlier before (sym (same.each earlier (omega (arith, next.below, before))) ∙ none);
}

-- the next entry goes to the same place
next_of-same : {words new : List ℕ} (next : Option EntryPlace) → SameLog words new → SameChunk (version_in words) words new (last_chunk words) → IsNextOf words next → IsNextOf new next
next_of-same {words} {new} None same last is =
    subst (λ v. IsFull v new (last_chunk new)) (sym (same_version same))
    (subst (IsFull (version_in words) new) (sym (last_chunk-same words new (same_chunks same))) (full_same (version_in words) words new (last_chunk words) last is))
next_of-same {words} {new} (Some place) same last is = (
  is.0 ∙ sym (last_chunk-same words new (same_chunks same)),
  subst (λ v. IsNext v new place.chunk place.entry) (sym (same_version same))
      (next_same (version_in words) words new place.chunk place.entry (subst (SameChunk (version_in words) words new) (sym is.0) last) is.1),
)

-- a log reads the same off words that are the same in the log
pub Reads-same : (book : Book) (words new : List ℕ) → SameLog words new → length new ≡ length words → Reads book words → Reads book new
Reads-same book words new same size reads = record {
  log = HasLog-same book.granules words new same reads.log;
  inside = within_same words new (same_version same) (same_chunks same) size reads.inside;
  live = λ start. reads.live start ∙ sym (extent_at-same words new start same);
  next = next_of-same book.next same (of_last (SameChunk (version_in words) words new) words reads.log.directory.some same.chunks) reads.next;
}

-- a store to a word that is none of the log's
pub Reads-elsewhere : (book : Book) (words : List ℕ) (k v : ℕ) → IsOffLog words k → Reads book words → Reads book (put_word words k v)
Reads-elsewhere book words k v off reads = Reads-same book words (put_word words k v) (SameLog-elsewhere words k v off) (length-put_word words k v) reads
