-- A log that reads an image reads it still once a word outside the log was stored.
use Rattle.std.proofs.Common.{◌≡◌, ◌<◌, ℕ, true, List, length, sym, ap, ◌∙◌, subst}
use Rattle.pmem_lines.specs.Words.{put_word}
use Rattle.pmem_lines.proofs.Words.{length-put_word}
use Rattle.pool_layout.specs.Places.{root_word}
use Rattle.pool_layout.specs.Header.{granules_field}
use Rattle.image_tables.specs.Tables.{is_slab, state_word}
use Rattle.image_tables.proofs.Logs.{IsOffLog, SameLog, SameLog-elsewhere}
use Rattle.image_tables.proofs.Stores.{IsOffLog-root}
use Rattle.book_log.specs.Book.{Book}
use Rattle.book_log.proofs.Books.{Reads-same}
use Rattle.log_steps.specs.Log.{IsBookOf}
use Rattle.heap_check.specs.Image.{bounds_of}
use Rattle.gc_check.specs.Image.{IsGcExactImage}
use Rattle.gc_check.proofs.Forms.{slabs_high, IsOffLog-state}

-- words with the same log
pub book_same : (book : Book) (words new : List ℕ) → SameLog words new → length new ≡ length words → IsBookOf book words → IsBookOf book new
book_same book words new same size log = record { reads = Reads-same book words new same size log.reads; granules = log.granules ∙ sym (ap granules_field same.fields) }

pub book_put : (book : Book) (words : List ℕ) (k value : ℕ) → IsOffLog words k → IsBookOf book words → IsBookOf book (put_word words k value)
book_put book words k value off log = book_same book words (put_word words k value) (SameLog-elsewhere words k value off) (length-put_word words k value) log

-- a root's word, and the state word of a slab

pub book_root : (book : Book) (words new : List ℕ) (root value : ℕ) → new ≡ put_word words (root_word root) value → root < (bounds_of words).roots → IsBookOf book words → IsBookOf book new
book_root book words new root value is below log = subst (IsBookOf book) (sym is) (book_put book words (root_word root) value (IsOffLog-root words root below) log)

pub book_class : (book : Book) (words new : List ℕ) (start value : ℕ) → new ≡ put_word words (state_word start) value → IsGcExactImage words → is_slab words start ≡ true → IsBookOf book words → IsBookOf book new
book_class book words new start value is image slab log = subst (IsBookOf book) (sym is) (book_put book words (state_word start) value (IsOffLog-state words start (slabs_high words image.exact.sound.extents) slab) log)
