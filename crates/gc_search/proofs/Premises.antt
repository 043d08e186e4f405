-- What the searches need of an image, from what is known of it.
use Rattle.std.proofs.Common.{◌≡◌, ◌≢◌, ℕ, ◌+◌, ◌*◌, ◌^◌, ◌<◌, ◌≤◌, ◌/◌, ◌%◌, Bool, true, false, List, length, get_or, refl, sym, ap, subst, ◌∙◌, arith}
use Rattle.pmem_lines.specs.Words.{word_at}
use Rattle.pool_layout.specs.declared.header.PoolHeader.{PoolHeader}
use Rattle.pool_layout.specs.declared.defect.Defect.TheVariants.{BadLength}
use Rattle.pool_layout.specs.Layout.{layout_of}
use Rattle.pool_layout.proofs.Layouts.{layout_rules}
use Rattle.pool_layout.specs.Places.{heap_word}
use Rattle.pool_layout.specs.Header.{version_in, granules_in, fields_of, IsGcHeader}
use Rattle.pool_layout.proofs.Headers.{fields_of-header_word, header_fits}
use Rattle.image_tables.specs.Extents.{extent_at}
use Rattle.image_tables.specs.Tables.{Tables, is_slab, tables_of}
use Rattle.image_tables.proofs.Tables.{slab_table, large_table}
use Rattle.book_log.specs.Book.{Book, HasLog, AreWithin, IsArenaSize}
use Rattle.book_log.proofs.Places.{within_heap}
use Rattle.heap_check.specs.Image.{header_in}
use Rattle.heap_check.specs.Sound.{granules_at}
use Rattle.heap_check.proofs.Geometry.{granules_at-slab, granules_at-large}
use Rattle.image_defects.specs.Defects.{HasLength, IsLengthDefect}
use Rattle.image_defects.proofs.Extents.{extents_lie}
use Rattle.image_defects.proofs.Faultless.{one_kind_of}
use Rattle.image_reading.specs.Extents.{HasExtents}
use Rattle.image_reading.specs.Slabs.{IsSlabAt}
use Rattle.gc_search.specs.Known.{IsLogRead}

-- numbers of version 1

pub first_roots : (version : ℕ) → version ≡ 1 → (layout_of version).roots ≡ 4096
unfolding layout_of
first_roots version is = rw is refl

pub first_most : (version : ℕ) → version ≡ 1 → (layout_of version).most_granules ≡ 1024
unfolding layout_of
first_most version is = rw is refl

-- the header that was read is the image's
pub header_same : (words : List ℕ) (header : PoolHeader) → IsGcHeader words header → header ≡ header_in words
header_same words header is = sym (fields_of-header_word header (header_fits header is.valid.valid)) ∙ ap fields_in (sym is.word)
  where
    fields_in : ℕ → PoolHeader
    fields_in word = fields_of word

module _ (words : List ℕ) (header : IsGcHeader words (header_in words)) where
  pub size_of : IsArenaSize (granules_in words)
  size_of =
      let rules = layout_rules (version_in words) in
      record { least = omega (arith, header.valid.valid.least, rules.least); most = omega (arith, header.valid.valid.greatest, rules.most) }

  pub few_granules : granules_in words ≤ 1024
  few_granules = omega (arith, header.valid.valid.greatest, first_most (version_in words) header.valid.first)

  pub many_roots : (layout_of (version_in words)).roots ≡ 4096
  many_roots = first_roots (version_in words) header.valid.first

  -- roots and the log lie among the words

  pub roots_inside : HasLength words → 2048 + (layout_of (version_in words)).roots ≤ length words
  roots_inside size =
      let rules = layout_rules (version_in words) in
      omega (arith, size, header.valid.valid.least, rules.roots, rules.heap, rules.some_granule)

  heap_inside : HasLength words → heap_word (version_in words) ≤ length words
  heap_inside size = omega (arith, size, header.valid.valid.least, (layout_rules (version_in words)).some_granule)

  pub log_inside : HasLength words → AreWithin words
  log_inside size = within_heap words (heap_inside size)

module _ {words : List ℕ} {log : Book} (read : IsLogRead words log) where
  pub log_of : HasLog (granules_in words) words
  log_of = subst (λ n. HasLog n words) read.granules read.reads.log

  pub extents_of : HasExtents words
  extents_of = record { few = read.header.valid.valid.greatest; inside = λ start some. (extents_lie words log_of start some).1 }

  -- slabs lie among the words

  four_granules : (start : ℕ) → is_slab words start ≡ true → granules_at (tables_of words) start ≡ 4
  four_granules start slab = granules_at-slab (tables_of words) start (slab_table words start ∙ slab)

  pub slab_high : (start : ℕ) → is_slab words start ≡ true → start + 4 ≤ granules_in words
  slab_high start slab = let four = four_granules start slab in omega (arith, four, extents_of.inside start (omega (arith, four)))

  pub slab_at : (start : ℕ) → is_slab words start ≡ true → IsSlabAt words start
  slab_at start slab =
      let high = slab_high start slab in
      record { slab = slab; inside = omega (arith, high, read.size); small = omega (arith, high, few_granules words read.header) }

  -- and so do large extents, behind the first granule

  pub large_lies : (start : ℕ) → 0 < (tables_of words).large start → (0 < start) × (start + (tables_of words).large start ≤ granules_in words)
  large_lies start some = by (t.slab start) refl
    where
      t : Tables
      t = tables_of words

      by : (slab : Bool) → t.slab start ≡ slab → (0 < start) × (start + t.large start ≤ granules_in words)
      by true slab = absurd (omega (arith, some, large_table words start, one_kind_of (extent_at words start) (sym (slab_table words start) ∙ slab)))
      by false none =
          let is = granules_at-large t start none in
          let lies = extents_lie words log_of start (omega (arith, is, some)) in
          (omega (arith, lies.0, (layout_rules (version_in words)).first), omega (arith, lies.1, is))

-- how many granules the second word says
pub granules_word : (words : List ℕ) → granules_in words ≡ get_or words 1 0 / 4294967296 % 65536
unfolding word_at
granules_word words = refl

-- numbers of a chunk's entries fit their type
pub entries_small : (version entry : ℕ) → entry < (layout_of version).chunk_entries → entry < 2 ^ 16
entries_small version entry below = omega (arith, below, (layout_rules version).few_entries)

-- a header line that was read is the image's
pub header_there : (words : List ℕ) (header : PoolHeader) → IsGcHeader words header → IsGcHeader words (header_in words)
header_there words header is = subst (IsGcHeader words) (header_same words header is) is

pub bad_length : (words : List ℕ) (granules : ℕ) → granules ≡ granules_in words → length words ≢ 2048 * granules → IsLengthDefect words (BadLength (8 * length words) (8 * (2048 * granules)))
bad_length words granules is other = record {
  other = λ size. other (size ∙ ap (λ g. 2048 * g) (sym is));
  is = ap (BadLength (8 * length words)) (omega (arith, is));
}
