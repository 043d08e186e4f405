-- What a log reads stays where a part of recovery stores outside the log.
use Rattle.std.proofs.Common.{◌≡◌, ◌<◌, ℕ, true, List, length, sym, ap, ◌∙◌, arith, ⊎_elim}
use Rattle.std.proofs.lemmas.List.Elements.{All-weaker}
use Rattle.recovery_steps.proofs.Common.{word_at, version_in, tables_of, Book, Bounds, bounds_of, IsSoundImage, IsBookOf, KeepsAllButOne}
use Rattle.pool_layout.specs.Places.{fields_word, directory_word, entry_slot}
use Rattle.image_tables.specs.Log.{active_chunks}
use Rattle.image_tables.proofs.Chunks.{few_chunks}
use Rattle.image_tables.proofs.Headers.{SameLog-off_header}
use Rattle.image_tables.proofs.Logs.{IsOffLog, SameLog, SameChunk}
use Rattle.image_tables.proofs.Places.{log_start-low, entry_slot-low, entry_slot-high}
use Rattle.book_log.proofs.Books.{Reads-same}
use Rattle.slab_morph.specs.Stages.{IsOffHeader}
use Rattle.recovery_steps.proofs.Arenas.{slab_low}

-- the log of these words is that of the new ones, where both say the same of it
book_same : (book : Book) (words new : List ℕ) → SameLog words new → length new ≡ length words → bounds_of new ≡ bounds_of words → IsBookOf book words → IsBookOf book new
book_same book words new same size bounds is = record {
  reads = Reads-same book words new same size is.reads;
  granules = is.granules ∙ sym (ap (λ (b : Bounds). b.granules) bounds);
}

-- a line of the write-ahead entries and another word off the log change
pub same_but : (words : List ℕ) (line k : ℕ) (new : List ℕ) → line < 8 → IsOffLog words k → KeepsAllButOne words line k new → SameLog words new
same_but words line k new below off rest = record {
  fields = rest.others fields_word (λ e. omega (arith, e)) (λ e. off.fields (sym e));
  directory = rest.others directory_word (λ e. omega (arith, e)) (λ e. off.directory (sym e));
  chunks = All-weaker (λ c. c < 16) (SameChunk (version_in words) words new)
      (λ c few. record {
        each = λ e inside.
            let low = entry_slot-low (version_in words) c e in
            rest.others (entry_slot (version_in words) c e)
            (λ same. omega (arith, same, below, low, log_start-low (version_in words)))
            (λ same. ⊎_elim
            (λ before. omega (arith, same, before, low))
            (λ behind. omega (arith, same, behind, entry_slot-high (version_in words) c e few inside))
            off.place);
      })
      (active_chunks (word_at words directory_word)) (few_chunks (word_at words directory_word));
}

pub book_settled : (book : Book) (words : List ℕ) (line k : ℕ) (new : List ℕ) → line < 8 → IsOffLog words k → KeepsAllButOne words line k new → bounds_of new ≡ bounds_of words → IsBookOf book words → IsBookOf book new
book_settled book words line k new below off rest bounds is = book_same book words new (same_but words line k new below off rest) rest.same_length bounds is

-- words of the header of a slab change
pub same_off_header : {words new : List ℕ} (start : ℕ) → IsSoundImage words → (tables_of words).slab start ≡ true → IsOffHeader words start new → SameLog words new
same_off_header {words} {new} start image slab off = SameLog-off_header words new start (record { in_heap = slab_low words image start slab; others = off.others })

pub book_off_header : {book : Book} {words new : List ℕ} (start : ℕ) → IsSoundImage words → (tables_of words).slab start ≡ true → IsOffHeader words start new → bounds_of new ≡ bounds_of words → IsBookOf book words → IsBookOf book new
book_off_header {book} {words} {new} start image slab off bounds is = book_same book words new (same_off_header start image slab off) off.same_length bounds is
