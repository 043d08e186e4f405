-- What changes within the header of one slab leave of the tables of an image.
use Rattle.std.proofs.Common.{◌≡◌, ◌≢◌, ◌⊎◌, ◌+◌, ◌/◌, ◌%◌, ◌^◌, ◌<◌, ◌≤◌, ⊎_elim, inl, inr, ℕ, Bool, true, false, List, length, refl, sym, ap, ◌∙◌, arith}
use Rattle.std.proofs.lemmas.Bool.{cases_lt, cases_eq}
use Rattle.std.proofs.lemmas.List.Elements.{All-weaker}
use Rattle.pmem_lines.specs.Words.{word_at, put_word}
use Rattle.pmem_lines.proofs.Words.{word_at-put_same, word_at-put_other}
use Rattle.pool_layout.specs.Layout.{layout_of}
use Rattle.pool_layout.specs.Places.{fields_word, directory_word, root_word, wal_word, entry_slot, granule_word, heap_word, blocks_place}
use Rattle.pool_layout.specs.Header.{version_field, version_in}
use Rattle.image_tables.specs.Log.{active_chunks}
use Rattle.image_tables.specs.Tables.{root_in, open_entry_in, wal_lines, large_of, is_slab_of, is_slab, AreSlabsInHeap, bit_of_word, state_word, bitmap_word, index_word, slab_bit, bit_at, live_at, number_at, SlabHeader, slab_header, tables_of}
use Rattle.image_tables.specs.Updates.{put_at, put_in, put_header, put_bit, put_index}
use Rattle.image_tables.proofs.Chunks.{few_chunks}
use Rattle.image_tables.proofs.Places.{log_start-low, entry_slot-high}
use Rattle.image_tables.proofs.Logs.{SameChunk, SameLog}
use Rattle.image_tables.proofs.Extents.{extent_at-same}
use Rattle.image_tables.proofs.Updates.{put_at-same, put_at-other, put_in-is}
use Rattle.image_tables.proofs.Stores.{root_word-low, wal_word-low, log_start-high, live_at-same, number_at-same, bit_at-same, slab_bit-same, roots-same, entry_among-same, slab_header-by, slab_header-same, tables_by}
use Rattle.image_tables.proofs.Tables.{bit_table, live_table, number_table}

-- Words that differ within the header at a granule of the heap alone.
pub record IsSameOffHeader (words new : List ℕ) (start : ℕ) : Type 0 where
  pub in_heap : (layout_of (version_in words)).first_granule ≤ start
  pub others : (k : ℕ) → (k < granule_word start) ⊎ (granule_word start + blocks_place ≤ k) → word_at new k ≡ word_at words k

-- a store to a header
pub IsSameOffHeader-put : (words : List ℕ) (start k value : ℕ) → (layout_of (version_in words)).first_granule ≤ start → granule_word start ≤ k → k < granule_word start + blocks_place →
    IsSameOffHeader words (put_word words k value) start
IsSameOffHeader-put words start k value in_heap low high = record {
  in_heap = in_heap;
  others = λ j apart. word_at-put_other words k j value (λ e. omega (arith, e, apart, low, high));
}

-- a word before the heap
before_heap : (words new : List ℕ) (start k : ℕ) → IsSameOffHeader words new start → k < heap_word (version_in words) → word_at new k ≡ word_at words k
before_heap words new start k same low = same.others k (inl (omega (arith, same.in_heap, low)))

-- a word of the header at another granule
other_header : (words new : List ℕ) (start other k : ℕ) → IsSameOffHeader words new start → other ≢ start → granule_word other ≤ k → k < granule_word other + blocks_place → word_at new k ≡ word_at words k
other_header words new start other k same apart low high = same.others k (⊎_elim
    (λ (before : other < start). inl (omega (arith, before, high)))
    (λ (behind : start ≤ other). inr (omega (arith, behind, apart, low)))
    (cases_lt other start))

-- the heap lies behind the roots
heap_word-low : (version : ℕ) → 2048 < heap_word version
heap_word-low version = omega (arith, log_start-low version, log_start-high version)

-- the log is the same
pub SameLog-off_header : (words new : List ℕ) (start : ℕ) → IsSameOffHeader words new start → SameLog words new
SameLog-off_header words new start same =
    let version = version_in words in
    record {
      fields = before_heap words new start fields_word same (omega (arith, heap_word-low version));
      directory = before_heap words new start directory_word same (omega (arith, heap_word-low version));
      chunks = All-weaker (λ c. c < 16) (SameChunk version words new)
          (λ c few. record { each = λ e below. before_heap words new start (entry_slot version c e) same (entry_slot-high version c e few below) })
          (active_chunks (word_at words directory_word)) (few_chunks (word_at words directory_word));
    }

-- so the slabs are
pub is_slab-off_header : (words new : List ℕ) (start other : ℕ) → IsSameOffHeader words new start → is_slab new other ≡ is_slab words other
is_slab-off_header words new start other same = ap is_slab_of (extent_at-same words new other (SameLog-off_header words new start same))

-- the header of another slab is the same
pub slab_header-other : (words new : List ℕ) (start other : ℕ) → IsSameOffHeader words new start → (is_slab words other ≡ true → other ≢ start) → slab_header new other ≡ slab_header words other
slab_header-other words new start other same apart = slab_header-same words new other (is_slab-off_header words new start other same)
    (λ is. other_header words new start other (state_word other) same (apart is) (omega arith) (omega arith))
    (λ i is below. other_header words new start other (bitmap_word other i) same (apart is) (omega arith) (omega (arith, below)))
    (λ place is below. other_header words new start other (index_word other place) same (apart is) (omega arith) (omega (arith, below)))

-- the tables, by the header of each slab
tables_off_header : (words new : List ℕ) (start : ℕ) (header : ℕ → SlabHeader) → IsSameOffHeader words new start → ((s : ℕ) → slab_header new s ≡ header s) →
    tables_of new ≡ record (tables_of words) { header = header }
unfolding tables_of
tables_off_header words new start header same headers =
    let version = version_in words in
    let log = SameLog-off_header words new start same in
    tables_by words new (root_in words) (open_entry_in words) (tables_of words).large header
    (λ s. is_slab-off_header words new start s same)
    (roots-same words new (ap version_field log.fields) (λ root below. before_heap words new start (root_word root) same (omega (arith, root_word-low version root below, log_start-high version))))
    (entry_among-same (λ line. word_at words (wal_word line)) (λ line. word_at new (wal_word line)) wal_lines
    (λ line below. before_heap words new start (wal_word line) same (omega (arith, wal_word-low line below, heap_word-low version))))
    (λ s. ap large_of (extent_at-same words new s log))
    headers

-- only the header of the slab there may change
pub tables_put_header : (words new : List ℕ) (start : ℕ) → IsSameOffHeader words new start → tables_of new ≡ put_header (tables_of words) start (slab_header new start)
unfolding tables_of
tables_put_header words new start same = tables_off_header words new start (put_at (slab_header words) start (slab_header new start)) same
    (λ s. ⊎_elim
    (λ (here : s ≡ start). ap (slab_header new) here ∙ sym (put_at-same (slab_header words) start (slab_header new start)) ∙ ap (put_at (slab_header words) start (slab_header new start)) (sym here))
    (λ (apart : s ≢ start). slab_header-other words new start s same (λ _. apart) ∙ sym (put_at-other (slab_header words) start s (slab_header new start) apart))
    (cases_eq s start))

-- where no slab begins there, nothing changes
pub tables_no_slab : (words new : List ℕ) (start : ℕ) → IsSameOffHeader words new start → is_slab words start ≡ false → tables_of new ≡ tables_of words
unfolding tables_of
tables_no_slab words new start same none =
    tables_off_header words new start (slab_header words) same (λ s. slab_header-other words new start s same (λ is here. cc))

-- a store to a word of a slab's bitmap that changes one bit
pub tables_put_bit : (words : List ℕ) (start i value : ℕ) (on : Bool) → AreSlabsInHeap words → is_slab words start ≡ true → i < 4096 → slab_bit (put_word words (bitmap_word start i) value) start i ≡ on →
    ((j : ℕ) → j < 4096 → j ≢ i → slab_bit (put_word words (bitmap_word start i) value) start j ≡ slab_bit words start j) →
    tables_of (put_word words (bitmap_word start i) value) ≡ put_bit (tables_of words) start i on
unfolding tables_of
tables_put_bit words start i value on slabs is below here others =
    let word = bitmap_word start i in
    let new = put_word words word value in
    let same : IsSameOffHeader words new start = IsSameOffHeader-put words start word value (slabs.low start is) (omega arith) (omega (arith, below)) in
    let slab : (s : ℕ) → is_slab new s ≡ is_slab words s = λ s. is_slab-off_header words new start s same in
    let index : (s place : ℕ) → place < 64 → word_at new (index_word s place) ≡ word_at words (index_word s place) = λ s place under. ⊎_elim
    (λ (own : s ≡ start). word_at-put_other words word (index_word s place) value (λ e. omega (arith, e, own, under, below)))
    (λ (apart : s ≢ start). other_header words new start s (index_word s place) same apart (omega arith) (omega (arith, under)))
    (cases_eq s start) in
    tables_off_header words new start (λ s. record (slab_header words s) { bit = put_in (bit_at words) start i on s }) same
    (λ s. slab_header-by words new s (put_in (bit_at words) start i on s) (live_at words s) (number_at words s) (slab s)
    (λ _. word_at-put_other words word (state_word s) value (λ e. omega (arith, e, below)))
    (put_in-is (bit_at words) (bit_at new) start i on (bit_table new start i (slab start ∙ is) below ∙ here)
    (λ j apart. bit_at-same words new start j (slab start) (λ _ under. others j under apart))
    (λ s j apart. ap (λ (h : SlabHeader). h.bit j) (slab_header-other words new start s same (λ _. apart))) s)
    (λ place. live_at-same words new s place (slab s) (λ _ under. index s place under))
    (λ place. number_at-same words new s place (slab s) (λ _ under. index s place under)))

-- a store to a place of a slab's index table
pub tables_put_index : (words : List ℕ) (start place value : ℕ) → AreSlabsInHeap words → is_slab words start ≡ true → place < 64 → index_word start place < length words →
    tables_of (put_word words (index_word start place) value) ≡ put_index (tables_of words) start place (bit_of_word value 0) (value / 2 ^ 16 % 2 ^ 16)
unfolding tables_of
tables_put_index words start place value slabs is below inside =
    let word = index_word start place in
    let new = put_word words word value in
    let same : IsSameOffHeader words new start = IsSameOffHeader-put words start word value (slabs.low start is) (omega arith) (omega (arith, below)) in
    let slab : (s : ℕ) → is_slab new s ≡ is_slab words s = λ s. is_slab-off_header words new start s same in
    let put : word_at new word ≡ value = word_at-put_same words word word value refl inside in
    let rest : (p : ℕ) → p < 64 → p ≢ place → word_at new (index_word start p) ≡ word_at words (index_word start p) =
    λ p under apart. word_at-put_other words word (index_word start p) value (λ e. apart (omega (arith, e, under, below))) in
    let live = bit_of_word value 0 in
    let number = value / 2 ^ 16 % 2 ^ 16 in
    tables_off_header words new start (λ s. record (slab_header words s) { live = put_in (live_at words) start place live s; number = put_in (number_at words) start place number s }) same
    (λ s. slab_header-by words new s (bit_at words s) (put_in (live_at words) start place live s) (put_in (number_at words) start place number s) (slab s)
    (λ _. word_at-put_other words word (state_word s) value (λ e. omega (arith, e, below)))
    (λ i. ⊎_elim
    (λ (own : s ≡ start). bit_at-same words new s i (slab s)
    (λ _ under. slab_bit-same words new s i (word_at-put_other words word (bitmap_word s i) value (λ e. omega (arith, e, own, under, below)))))
    (λ (apart : s ≢ start). ap (λ (h : SlabHeader). h.bit i) (slab_header-other words new start s same (λ _. apart)))
    (cases_eq s start))
    (put_in-is (live_at words) (live_at new) start place live (live_table new start place (slab start ∙ is) below ∙ ap (λ w. bit_of_word w 0) put)
    (λ p apart. live_at-same words new start p (slab start) (λ _ under. rest p under apart))
    (λ s p apart. ap (λ (h : SlabHeader). h.live p) (slab_header-other words new start s same (λ _. apart))) s)
    (put_in-is (number_at words) (number_at new) start place number (number_table new start place (slab start ∙ is) below ∙ ap (λ w. w / 2 ^ 16 % 2 ^ 16) put)
    (λ p apart. number_at-same words new start p (slab start) (λ _ under. rest p under apart))
    (λ s p apart. ap (λ (h : SlabHeader). h.number p) (slab_header-other words new start s same (λ _. apart))) s))
