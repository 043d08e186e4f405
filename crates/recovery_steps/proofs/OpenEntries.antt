-- The open entry, found with its line and the slab that has its block.
use Rattle.std.proofs.Common.{◌≡◌, ◌*◌, ◌/◌, ◌<◌, ◌≤◌, ℕ, Bool, true, false, List, ◌++◌, length, refl, sym, ap, subst, ◌∙◌, arith, inl, inr, Some}
use Rattle.recovery_steps.proofs.Common.{word_at, layout_of, layout_rules, version_in, WalEntry, Place, Move, tables_of, IsOffLog, Book, IsInSlab, IsOpenMove, bounds_of, IsSoundImage, IsSteadyImage, granules_at-slab, sizes_of, IsBookOf, IsOpenIn, settle_events, settled_word, LiesInSlab, IsEntrySettled, entry_is}
use Rattle.durable_steps.specs.Steps.{word_events}
use Rattle.pool_layout.specs.Places.{fields_word, root_word, wal_word, granule_word, log_start}
use Rattle.image_tables.proofs.Stores.{few_lines}
use Rattle.attach_wal.specs.Entry.{IsEntryWord, IsNoEntryWord}
use Rattle.heap_check.specs.Heap.{slab_of}
use Rattle.defect_search.specs.OpenWords.{AreClosedFrom, IsNextLine}
use Rattle.defect_search.proofs.LineWords.{closed_entry}
use Rattle.settle_steps.specs.Moves.{both_named, release_events}
use Rattle.settle_steps.proofs.EntrySlabs.{in_slab_of}
use Rattle.recovery_steps.specs.OpenEntry.{IsClosed, IsFoundOpen}
use Rattle.recovery_steps.specs.Recovery.{IsSettling}
use Rattle.recovery_steps.proofs.Books.{same_but, book_settled}

-- the roots lie before the log
root_before : (version root : ℕ) → root < (layout_of version).roots → root_word root < log_start version
root_before version root few = omega (arith, few, (layout_rules version).roots)

-- no line has a word
pub closed_in : (words : List ℕ) → AreClosedFrom words 0 → IsClosed words
closed_in words closed = record { closed = closed_entry words closed }

-- the line is one of the eight
pub line_below : (words : List ℕ) (line : ℕ) → IsNextLine words 0 line → line < 8
line_below words line next = omega (arith, few_lines, next.below)

-- its word is an entry's
pub found_open : (words : List ℕ) (line word : ℕ) (entry : WalEntry) → IsSteadyImage words → IsNextLine words 0 line → word ≡ word_at words (wal_word line) → IsEntryWord word entry → IsFoundOpen words (record { line = line; entry = entry })
found_open words line word entry image next is of = record {
  line = line_below words line next;
  open_in = record { image = image; here = subst (λ w. IsEntryWord w entry) is of };
}

pub some_open : (words : List ℕ) (line word : ℕ) → IsSteadyImage words → IsNextLine words 0 line → word ≡ word_at words (wal_word line) → IsNoEntryWord word → ⊥
some_open words line word image next is none = subst IsNoEntryWord is none (image.formed.wal.entry line next.below next.some)

-- the slab that has the block of an open place entry
pub lies_with : (words : List ℕ) (root at place : ℕ) (old : Bool) (start : ℕ) → IsSoundImage words → (tables_of words).open_entry ≡ Some (Place root at old place) → start ≡ slab_of (tables_of words).slab (at / 16384) →
    IsInSlab (tables_of words) start at
lies_with words root at place old start image opens is = subst (λ s. IsInSlab (tables_of words) s at) (sym is) (in_slab_of image.sound root at place old opens)

-- six events at most
pub few_settling : (words : List ℕ) (line start : ℕ) (entry : WalEntry) → length (settle_events words line start entry) ≤ 6
few_settling words line start (Place root at true place) = omega arith
few_settling words line start (Place root at false place) = omega arith
few_settling words line start (Move from to) = by (both_named words from to)
  where
    by : (both : Bool) → length (release_events from both ++ word_events (8 * wal_word line) 0) ≤ 6
    by true = omega arith
    by false = omega arith

module _ (words : List ℕ) (line start : ℕ) (entry : WalEntry) (below : line < 8) (open_in : IsOpenIn words line entry) (lies : LiesInSlab (tables_of words) start entry) where
  pub settling : IsSettling words (settle_events words line start entry)
  settling = record { line = line; entry = entry; start = start; below = below; here = open_in.here; slab = lies; is = refl }

  opens : (tables_of words).open_entry ≡ Some entry
  opens = entry_is words line below entry open_in

  -- a header of a slab lies in the heap
  header_off : (k : ℕ) → (layout_of (version_in words)).first_granule ≤ start → granule_word start ≤ k → IsOffLog words k
  header_off k low behind =
      let sizes = sizes_of words open_in.image.formed in
      record {
        fields = λ e. omega (arith, e, behind, low, sizes.first);
        directory = λ e. omega (arith, e, behind, low, sizes.first);
        place = inr (omega (arith, behind, low));
      }

  in_heap : (at : ℕ) → IsInSlab (tables_of words) start at → (layout_of (version_in words)).first_granule ≤ start
  in_heap at inside =
      let four = granules_at-slab (tables_of words) start inside.slab in
      (open_in.image.steady.sound.extents.starts start (omega (arith, four))).0

  root_off : (root : ℕ) → root < (layout_of (version_in words)).roots → IsOffLog words (root_word root)
  root_off root few =
      let sizes = sizes_of words open_in.image.formed in
      record {
        fields = λ e. omega (arith, e);
        directory = λ e. omega (arith, e);
        place = inl (root_before (version_in words) root few);
      }

  -- the word that is put is none of the log's
  off_log_of : (e : WalEntry) → e ≡ entry → IsOffLog words (settled_word (tables_of words) start e)
  off_log_of (Place root at true place) is =
      let inside : IsInSlab (tables_of words) start at = subst (LiesInSlab (tables_of words) start) (sym is) lies in
      header_off (settled_word (tables_of words) start (Place root at true place)) (in_heap at inside) (omega arith)
  off_log_of (Place root at false place) is =
      let inside : IsInSlab (tables_of words) start at = subst (LiesInSlab (tables_of words) start) (sym is) lies in
      header_off (settled_word (tables_of words) start (Place root at false place)) (in_heap at inside) (omega arith)
  off_log_of (Move from to) is =
      let move : IsOpenMove (bounds_of words) (tables_of words) from to = (open_in.image.steady.sound.owned.open_entry (Move from to) (opens ∙ ap (λ e. Some e) (sym is))).entry in
      root_off from move.low

  pub header_behind : (new : List ℕ) → IsEntrySettled words line start entry new → word_at new fields_word ≡ word_at words fields_word
  header_behind new done = (same_but words line (settled_word (tables_of words) start entry) new below (off_log_of entry refl) done.settled.rest).fields

  pub book_behind : (book : Book) (new : List ℕ) → IsBookOf book words → IsEntrySettled words line start entry new → IsBookOf book new
  book_behind book new is done =
      book_settled book words line (settled_word (tables_of words) start entry) new below (off_log_of entry refl) done.settled.rest done.settled.keeps.bounds is
