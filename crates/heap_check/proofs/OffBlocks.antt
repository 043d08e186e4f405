-- Words that differ within the block of a root alone: the image says the same of everything.
use Rattle.std.proofs.Common.{◌≡◌, ◌<◌, ◌≤◌, ◌+◌, ◌*◌, ℕ, true, List, length, Some, ap, ◌∙◌, arith, ⊎_elim}
use Rattle.heap_check.proofs.Common.{wal_word, granule_word, blocks_place, text_word, root_word, entry_slot, heap_word, version_field, version_in, granules_in, log_start-low, entry_slot-high, slab_fields, slab_table, wal_word-low, log_start-high, roots-same, entry_among-same, slab_header-same, tables_by, root_word-low, HasLog-same, word_at, Range}
use Rattle.image_tables.specs.Tables.{root_in, open_entry_in, wal_lines, bitmap_word, slab_header, tables_of, Tables, large_of, is_slab_of, is_slab, state_word, index_word}
use Rattle.image_tables.proofs.Extents.{extent_at-same}
use Rattle.heap_check.proofs.BlockWords.{block_word-heap, block_word-header}
use Rattle.heap_check.proofs.Forms.{IsFormed-same, HasWal-same, bounds_of-same}
use Rattle.heap_check.proofs.Geometry.{index_count_few}
use Rattle.image_tables.proofs.Logs.{SameLog, same_log}
use Rattle.heap_check.specs.Heap.{heap, slabs}
use Rattle.heap_check.specs.Image.{bounds_of, IsFormed, IsExactImage}
use Rattle.heap_check.specs.State.{IsWordOf, HaveSameHeap}

-- the words differ in the words of a block alone
pub record IsSameOffBlock (words new : List ℕ) (range : Range) : Type 0 where
  pub same_length : length new ≡ length words
  pub others : (k : ℕ) → ¬ (IsWordOf range k) → word_at new k ≡ word_at words k

-- the heap lies behind the write-ahead words and the roots
heap_word-low : (version : ℕ) → 2048 < heap_word version
heap_word-low version = omega (arith, log_start-low version, log_start-high version)

module _ {words new : List ℕ} {range : Range} (image : IsExactImage words) (root : ℕ) (named : heap (tables_of words) root ≡ Some range) (same : IsSameOffBlock words new range) where
  -- a word before the heap
  low : (k : ℕ) → k < heap_word (version_in words) → word_at new k ≡ word_at words k
  low k before = same.others k (λ within. omega (arith, block_word-heap image.exact.sound image.exact.closed root range named k within, before))

  lowest : (k : ℕ) → k < 2048 → word_at new k ≡ word_at words k
  lowest k before = low k (omega (arith, before, heap_word-low (version_in words)))

  -- a word of a slab's header
  header : (start k : ℕ) → is_slab words start ≡ true → granule_word start ≤ k → k < granule_word start + blocks_place → word_at new k ≡ word_at words k
  header start k is from to = same.others k (λ within. ⊎_elim
      (λ (before : k < 2048 * start). omega (arith, before, from))
      (λ (behind : 2048 * start + 256 ≤ k). omega (arith, behind, to))
      (block_word-header image.exact.sound image.exact.closed root range named k within start (slab_table words start ∙ is)))

  pub log : SameLog words new
  log = same_log words new (λ k before. lowest k (omega (arith, before))) (λ c e few below. low (entry_slot (version_in words) c e) (entry_slot-high (version_in words) c e few below))

  slab : (start : ℕ) → is_slab new start ≡ is_slab words start
  slab start = ap is_slab_of (extent_at-same words new start log)

  state : (start : ℕ) → is_slab words start ≡ true → word_at new (state_word start) ≡ word_at words (state_word start)
  state start is = header start (state_word start) is (omega arith) (omega arith)

  index : (start place : ℕ) → is_slab words start ≡ true → place < 64 → word_at new (index_word start place) ≡ word_at words (index_word start place)
  index start place is below = header start (index_word start place) is (omega arith) (omega (arith, below))

  wal : (line : ℕ) → line < wal_lines → word_at new (wal_word line) ≡ word_at words (wal_word line)
  wal line below = lowest (wal_word line) (wal_word-low line below)

  -- the tables are the same
  pub tables_kept : tables_of new ≡ tables_of words
  unfolding tables_of
  tables_kept = tables_by words new (root_in words) (open_entry_in words) (tables_of words).large (slab_header words) slab
      (roots-same words new (ap version_field log.fields) (λ r below. low (root_word r) (omega (arith, root_word-low (version_in words) r below, log_start-high (version_in words)))))
      (entry_among-same (λ line. word_at words (wal_word line)) (λ line. word_at new (wal_word line)) wal_lines wal)
      (λ start. ap large_of (extent_at-same words new start log))
      (λ start. slab_header-same words new start (slab start) (state start)
      (λ i is below. header start (bitmap_word start i) is (omega arith) (omega (arith, below)))
      (index start))

  pub bounds_kept : bounds_of new ≡ bounds_of words
  bounds_kept = bounds_of-same words new log.fields

  -- so is the form
  formed : IsFormed new
  formed = IsFormed-same words new (record {
    same_length = same.same_length;
    text = lowest text_word (omega arith);
    fields = log.fields;
    slab = slab;
    state = state;
    index = λ start place is among.
        let few = index_count_few (image.exact.sound.slabs start (slab_table words start ∙ is)) in
        index start place is (omega (arith, among, few, (slab_fields words start).index_count));
  })
      (HasLog-same (granules_in words) words new log image.formed.log)
      (HasWal-same words new wal image.formed.wal)
      image.formed

  -- so the image is exact
  pub exact_kept : IsExactImage new
  exact_kept = grind (arith, formed, bounds_kept, tables_kept)

  pub heap_kept : HaveSameHeap words new
  heap_kept = record { each = λ r. ap (λ (t : Tables). heap t r) tables_kept }

  pub slabs_kept : (start : ℕ) → slabs (tables_of new) start ≡ slabs (tables_of words) start
  slabs_kept start = ap (λ (t : Tables). slabs t start) tables_kept
