-- The words of an arena in which nothing was allocated yet have the form of an arena, and say nothing.
use Rattle.std.proofs.Common.{◌≡◌, ℕ, zero, suc, ◌*◌, List, [], ◌∷◌, length, Bool, true, false, Some, None, sym, subst, ap, ◌∙◌, refl, arith, nat_lt, cond}
use Rattle.std.specs.List.{flat_map}
use Rattle.std.proofs.lemmas.List.{append-nil}
use Rattle.heap_check.proofs.Common.{false≢true, cond-false, word_at, layout_of, entry_slot, root_word, wal_word, version_in, granules_in, fields_of, root_table-none, no_heap}
use Rattle.pool_layout.specs.declared.header.PoolHeader.{PoolHeader}
use Rattle.pool_layout.specs.declared.header.PoolVariant.{PoolVariant}
use Rattle.pool_layout.specs.declared.header.PoolVariant.TheVariants.{Log}
use Rattle.pool_layout.specs.Header.{IsHeaderLine}
use Rattle.pool_layout.proofs.Headers.{fields_of-header_word, header_fits, valid_header}
use Rattle.image_tables.specs.Log.{log_of, active_chunks, most_chunks, chunk_log, entries_below}
use Rattle.image_tables.specs.Extents.{extent_at, extent_behind}
use Rattle.image_tables.specs.Tables.{tables_of, root_in, entry_among, wal_lines, large_of, is_slab_of}
use Rattle.book_log.specs.Book.{HasLog}
use Rattle.book_log.proofs.Fresh.{HasLog-fresh}
use Rattle.heap_check.specs.Laws.{AreBlank}
use Rattle.heap_check.specs.Image.{bounds_of, header_in, IsFormed}
use Rattle.heap_check.specs.State.{HasState}
use Rattle.heap_check.specs.Formatted.{IsFormattedAs, IsFormatted, LawOfFormatted}
use Rattle.heap_check.proofs.Blank.{law_of_empty_heap}

-- a row of zeros has no entry
entries_below-none : (row : ℕ → ℕ) (n : ℕ) → ((entry : ℕ) → row entry ≡ 0) → entries_below row n ≡ []
entries_below-none row zero none = refl
entries_below-none row (suc n) none = rw (none n, entries_below-none row n none) refl

entry_among-none : (row : ℕ → ℕ) (n : ℕ) → ((line : ℕ) → row line ≡ 0) → entry_among row n ≡ None
entry_among-none row zero none = refl
entry_among-none row (suc n) none = rw (none n) (entry_among-none row n none)

-- the directory word 1 makes chunk 0 active
first_chunk : active_chunks 1 ≡ 0 ∷ []
unfolding active_chunks most_chunks
first_chunk = refl

-- what both variants have in common
module _ (variant : PoolVariant) (words : List ℕ) (fields : PoolHeader) (formatted : IsFormattedAs variant words fields) where
  no_log : log_of words ≡ []
  unfolding log_of chunk_log
  no_log =
      ap (λ (directory : ℕ). flat_map (chunk_log (version_in words) words) (active_chunks directory)) formatted.directory
      ∙ ap (λ (chunks : List ℕ). flat_map (chunk_log (version_in words) words) chunks) first_chunk
      ∙ append-nil (chunk_log (version_in words) words 0)
      ∙ entries_below-none (λ entry. word_at words (entry_slot (version_in words) 0 entry)) (layout_of (version_in words)).chunk_entries
      (λ entry. formatted.rest (entry_slot (version_in words) 0 entry) (omega arith))

  pub no_extent : (start : ℕ) → extent_at words start ≡ None
  unfolding extent_at
  no_extent start = ap (λ (entries : List ℕ). extent_behind entries start None) no_log

  pub no_root : (root : ℕ) → root_in words root ≡ 0
  no_root root = go (nat_lt root (layout_of (version_in words)).roots)
    where
      go : (b : Bool) → cond b (word_at words (root_word root)) 0 ≡ 0
      go true = formatted.rest (root_word root) (omega arith)
      go false = refl

  -- its header line says what it was made of
  pub header_is : header_in words ≡ fields
  header_is = ap fields_of formatted.header.word ∙ fields_of-header_word fields (header_fits fields (valid_header variant fields formatted.header.valid))

  pub header_line : IsHeaderLine variant words (header_in words)
  header_line = subst (IsHeaderLine variant words) (sym header_is) formatted.header

  pub size_is : length words ≡ 2048 * granules_in words
  size_is = formatted.size ∙ sym (ap (λ (header : PoolHeader). 2048 * header.granules) header_is)

  pub fresh_log : HasLog (granules_in words) words
  fresh_log = HasLog-fresh (granules_in words) words (record {
    directory = formatted.directory;
    empty = λ entry. formatted.rest (entry_slot (version_in words) 0 entry) (omega arith);
  })

module _ (words : List ℕ) (fields : PoolHeader) (formatted : IsFormatted words fields) where
  pub AreBlank-formatted : AreBlank (tables_of words)
  unfolding tables_of wal_lines
  AreBlank-formatted = record {
    roots = λ root. root_table-none words root (no_root Log words fields formatted root);
    closed = entry_among-none (λ line. word_at words (wal_word line)) 8 (λ line. formatted.rest (wal_word line) (omega arith));
    no_large = λ start. ap large_of (no_extent Log words fields formatted start);
    no_slab = λ start. ap is_slab_of (no_extent Log words fields formatted start);
  }

  pub header_in-formatted : header_in words ≡ fields
  header_in-formatted = header_is Log words fields formatted

  pub IsFormed-formatted : IsFormed words
  IsFormed-formatted = record {
    header = header_line Log words fields formatted;
    size = size_is Log words fields formatted;
    log = fresh_log Log words fields formatted;
    wal = record {
      entry = λ line below some. absurd (some (formatted.rest (wal_word line) (omega arith)));
      one = λ line other below under some another. absurd (some (formatted.rest (wal_word line) (omega arith)));
    };
    slabs = λ start slab. absurd (false≢true (sym (ap is_slab_of (no_extent Log words fields formatted start)) ∙ slab));
  }

  pub HasState-formatted : HasState words no_heap
  HasState-formatted = record {
    blocks = (law_of_empty_heap (bounds_of words) (tables_of words) AreBlank-formatted).1;
    slabs = λ start. cond-false ((tables_of words).slab start) (Some ((tables_of words).header start).class) None (AreBlank-formatted.no_slab start);
    values = λ root index word is. absurd (cc);
  }

pub law_of_formatted : LawOfFormatted
law_of_formatted words header formatted = (
  record {
    formed = IsFormed-formatted words header formatted;
    exact = (law_of_empty_heap (bounds_of words) (tables_of words) (AreBlank-formatted words header formatted)).0;
  },
  HasState-formatted words header formatted,
)
