-- What the stages need of an image, from what the stages before them found.
use Rattle.std.proofs.Common.{◌≡◌, ℕ, ◌+◌, ◌^◌, ◌<◌, ◌≤◌, Bool, true, false, List, length, refl, sym, ap, subst, ◌∙◌, arith}
use Rattle.pool_layout.specs.declared.header.PoolHeader.{PoolHeader}
use Rattle.pool_layout.specs.Layout.{layout_of}
use Rattle.pool_layout.proofs.Layouts.{layout_rules}
use Rattle.pool_layout.specs.Places.{heap_word}
use Rattle.pool_layout.specs.Header.{version_in, granules_in, fields_of, IsHeader}
use Rattle.pool_layout.proofs.Headers.{fields_of-header_word, header_fits}
use Rattle.image_tables.specs.Extents.{extent_at}
use Rattle.image_tables.specs.Tables.{Tables, is_slab, tables_of}
use Rattle.image_tables.proofs.Tables.{slab_table, large_table, slab_fields}
use Rattle.book_log.specs.Book.{Book, HasLog, Reads, AreWithin, IsArenaSize}
use Rattle.book_log.proofs.Places.{within_heap}
use Rattle.heap_check.specs.Sound.{granules_at}
use Rattle.heap_check.specs.Image.{header_in}
use Rattle.heap_check.proofs.Geometry.{granules_at-slab, granules_at-large, index_count_few}
use Rattle.image_defects.specs.Log.{HasDirectory, HasEntries}
use Rattle.image_defects.specs.Headers.{AreGoodSlabs}
use Rattle.image_defects.specs.Defects.{HasLength}
use Rattle.image_defects.proofs.Extents.{extents_lie}
use Rattle.image_defects.proofs.Faultless.{one_kind_of}
use Rattle.image_reading.specs.Extents.{HasExtents}
use Rattle.image_reading.specs.Held.{AreSlabsAt}
use Rattle.defect_search.specs.Arena.{IsArena}
use Rattle.defect_search.specs.Headers.{AreSlabsInside}

-- the header that was read is the image's
pub header_same : (words : List ℕ) (header : PoolHeader) → IsHeader words header → header ≡ header_in words
header_same words header is = sym (fields_of-header_word header (header_fits header is.valid)) ∙ ap fields_in (sym is.word)
  where
    fields_in : ℕ → PoolHeader
    fields_in word = fields_of word

pub size_of : (words : List ℕ) → IsHeader words (header_in words) → IsArenaSize (granules_in words)
size_of words header =
    let rules = layout_rules (version_in words) in
    record { least = omega (arith, header.valid.least, rules.least); most = omega (arith, header.valid.greatest, rules.most) }

-- roots and the log lie among the words
pub roots_inside : (words : List ℕ) → IsHeader words (header_in words) → HasLength words → 2048 + (layout_of (version_in words)).roots ≤ length words
roots_inside words header size =
    let rules = layout_rules (version_in words) in
    omega (arith, size, header.valid.least, rules.roots, rules.heap, rules.some_granule)

heap_inside : (words : List ℕ) → IsHeader words (header_in words) → HasLength words → heap_word (version_in words) ≤ length words
heap_inside words header size = omega (arith, size, header.valid.least, (layout_rules (version_in words)).some_granule)

pub log_inside : (words : List ℕ) → IsHeader words (header_in words) → HasLength words → AreWithin words
log_inside words header size = within_heap words (heap_inside words header size)

-- the extents of a well-formed log

pub log_of_parts : (words : List ℕ) → HasDirectory words → HasEntries words → HasLog (granules_in words) words
log_of_parts words directory entries = record { directory = directory; entries = entries }

pub log_read : (book : Book) (words : List ℕ) → Reads book words → book.granules ≡ granules_in words → HasLog (granules_in words) words
log_read book words reads same = subst (λ n. HasLog n words) same reads.log

pub extents_of : (words : List ℕ) → IsHeader words (header_in words) → HasLog (granules_in words) words → HasExtents words
extents_of words header log = record {
  few = header.valid.greatest;
  inside = λ start some. (extents_lie words log start some).1;
}

four_granules : (words : List ℕ) (start : ℕ) → is_slab words start ≡ true → granules_at (tables_of words) start ≡ 4
four_granules words start slab = granules_at-slab (tables_of words) start (slab_table words start ∙ slab)

pub slabs_inside : (words : List ℕ) → HasLength words → HasExtents words → AreSlabsInside words
slabs_inside words size extents = record {
  at = λ start slab.
      let four = four_granules words start slab in
      let lies = extents.inside start (omega (arith, four)) in
      record { slab = slab; inside = omega (arith, lies, four, size); small = omega (arith, lies, four, extents.few, (layout_rules (version_in words)).most) };
  below = λ start slab. let four = four_granules words start slab in omega (arith, four, extents.inside start (omega (arith, four)));
}

pub slabs_at : (words : List ℕ) → AreSlabsInside words → AreGoodSlabs words → AreSlabsAt words
slabs_at words inside good = record { at = inside.at; good = good }

large_lies : (words : List ℕ) → HasLog (granules_in words) words → (start : ℕ) → 0 < (tables_of words).large start → ((layout_of (version_in words)).first_granule ≤ start) × (start + (tables_of words).large start ≤ granules_in words)
large_lies words log start some = by (t.slab start) refl
  where
    t : Tables
    t = tables_of words

    by : (slab : Bool) → t.slab start ≡ slab → ((layout_of (version_in words)).first_granule ≤ start) × (start + t.large start ≤ granules_in words)
    by true slab = absurd (omega (arith, some, large_table words start, one_kind_of (extent_at words start) (sym (slab_table words start) ∙ slab)))
    by false none =
        let is = granules_at-large t start none in
        let lies = extents_lie words log start (omega (arith, is, some)) in
        (lies.0, omega (arith, lies.1, is))

pub arena_of : (words : List ℕ) → IsHeader words (header_in words) → HasLength words → HasLog (granules_in words) words → AreGoodSlabs words → IsArena words
arena_of words header size log good = record {
  version = header.valid.version;
  granules = size_of words header;
  least = header.valid.least;
  size = size;
  large = large_lies words log;
  slab = λ start slab.
      let four = four_granules words start slab in
      let lies = extents_lie words log start (omega (arith, four)) in
      (lies.0, omega (arith, lies.1, four));
  entries = λ start slab. subst (λ n. n ≤ 64) (slab_fields words start).index_count (index_count_few (good start slab).slab);
}

-- numbers of a chunk's entries fit their type
pub entries_small : (version entry : ℕ) → entry < (layout_of version).chunk_entries → entry < 2 ^ 16
entries_small version entry below = omega (arith, below, (layout_rules version).few_entries)
