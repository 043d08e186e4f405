-- What a store changes of the tables of an image.
use Rattle.std.proofs.Common.{◌≡◌, ◌≢◌, ◌⊎◌, ◌&&◌, ◌/◌, ◌%◌, ◌^◌, ◌<◌, ◌≤◌, ⊎_elim, inl, inr, ℕ, zero, suc, Bool, true, false, cond, eqb, ltb, Option, Some, None, List, length, refl, sym, ap, subst, ◌∙◌, arith}
use Rattle.std.proofs.lemmas.Bool.{cases_Bool, cases_eq, eqb-true, cond-true, cond-false, and_parts, ltb-true, lt-ltb}
use Rattle.pmem_lines.specs.Words.{word_at, put_word}
use Rattle.pmem_lines.proofs.Words.{word_at-put_same, word_at-put_other}
use Rattle.pool_layout.specs.Layout.{layout_of}
use Rattle.pool_layout.specs.Places.{text_word, fields_word, directory_word, root_word, wal_word, log_start, heap_word}
use Rattle.pool_layout.specs.Header.{version_field, granules_field, version_in, granules_in}
use Rattle.pool_layout.proofs.Layouts.{layout_rules}
use Rattle.image_tables.specs.Extents.{extent_at}
use Rattle.image_tables.specs.declared.entry.WalEntry.{WalEntry}
use Rattle.image_tables.specs.declared.entry.WalEntry.TheVariants.{Place, Move}
use Rattle.image_tables.specs.Tables.{entry_of_word, entry_among, open_entry_in, held_of, root_in, wal_lines, large_of, is_slab_of, is_slab, AreSlabsInHeap, bit_of_word, state_word, bitmap_word, index_word, slab_bit, bit_at, live_at, number_at, state_field, SlabHeader, slab_header, tables_of}
use Rattle.image_tables.specs.Updates.{put_at, HasNoMove, with_root}
use Rattle.image_tables.proofs.Updates.{put_at-same, put_at-other}
use Rattle.image_tables.proofs.Places.{log_start-low}
use Rattle.image_tables.proofs.Logs.{IsOffLog}
use Rattle.image_tables.proofs.Extents.{extent_at-elsewhere}

-- how many write-ahead lines there are
pub few_lines : wal_lines ≡ 8
unfolding wal_lines
few_lines = refl

-- the roots lie before the log
pub root_word-low : (version root : ℕ) → root < (layout_of version).roots → root_word root < log_start version
root_word-low version root below = let rules = layout_rules version in omega (arith, rules.roots, below)

-- the write-ahead words lie before the roots
pub wal_word-low : (line : ℕ) → line < wal_lines → wal_word line < 2048
wal_word-low line below = omega (arith, few_lines, below)

-- the log lies before the heap
pub log_start-high : (version : ℕ) → log_start version ≤ heap_word version
log_start-high version = let rules = layout_rules version in omega (arith, rules.heap)

-- Words that differ in the log and the directory alone.
pub record IsSameOffLog (words new : List ℕ) : Type 0 where
  pub same_length : length new ≡ length words
  pub others : (k : ℕ) → k ≢ directory_word → (k < log_start (version_in words)) ⊎ (heap_word (version_in words) ≤ k) → word_at new k ≡ word_at words k

-- a word before the roots, but for the directory
pub low-off_log : (words new : List ℕ) (k : ℕ) → IsSameOffLog words new → k ≢ directory_word → k < 2048 → word_at new k ≡ word_at words k
low-off_log words new k same apart low = same.others k apart (inl (omega (arith, low, log_start-low (version_in words))))

pub text-off_log : (words new : List ℕ) → IsSameOffLog words new → word_at new text_word ≡ word_at words text_word
text-off_log words new same = low-off_log words new text_word same (λ e. omega arith) (omega arith)

pub fields-off_log : (words new : List ℕ) → IsSameOffLog words new → word_at new fields_word ≡ word_at words fields_word
fields-off_log words new same = low-off_log words new fields_word same (λ e. omega arith) (omega arith)

pub version_in-off_log : (words new : List ℕ) → IsSameOffLog words new → version_in new ≡ version_in words
version_in-off_log words new same = ap version_field (fields-off_log words new same)

pub granules_in-off_log : (words new : List ℕ) → IsSameOffLog words new → granules_in new ≡ granules_in words
granules_in-off_log words new same = ap granules_field (fields-off_log words new same)

-- the same the other way
pub IsSameOffLog-back : (words new : List ℕ) → IsSameOffLog words new → IsSameOffLog new words
IsSameOffLog-back words new same = record {
  same_length = sym same.same_length;
  others = λ k apart outside.
      let version = version_in-off_log words new same in
      sym (same.others k apart (⊎_elim (λ x. inl (omega (arith, x, ap log_start version))) (λ x. inr (omega (arith, x, ap heap_word version))) outside));
}

pub root_word-off_log : (words new : List ℕ) (root : ℕ) → IsSameOffLog words new → root < (layout_of (version_in words)).roots → word_at new (root_word root) ≡ word_at words (root_word root)
root_word-off_log words new root same below = same.others (root_word root) (λ e. omega arith) (inl (root_word-low (version_in words) root below))

pub wal_word-off_log : (words new : List ℕ) (line : ℕ) → IsSameOffLog words new → line < wal_lines → word_at new (wal_word line) ≡ word_at words (wal_word line)
wal_word-off_log words new line same below = low-off_log words new (wal_word line) same (λ e. omega arith) (wal_word-low line below)

pub heap_word-off_log : (words new : List ℕ) (k : ℕ) → IsSameOffLog words new → heap_word (version_in words) ≤ k → word_at new k ≡ word_at words k
heap_word-off_log words new k same high =
    let version = version_in words in
    same.others k (λ e. omega (arith, e, high, log_start-low version, log_start-high version)) (inr high)

-- the words of a slab's header lie in the heap
pub state_word-high : (words : List ℕ) (start : ℕ) → AreSlabsInHeap words → is_slab words start ≡ true → heap_word (version_in words) ≤ state_word start
state_word-high words start slabs is = omega (arith, slabs.low start is)

pub bitmap_word-high : (words : List ℕ) (start i : ℕ) → AreSlabsInHeap words → is_slab words start ≡ true → heap_word (version_in words) ≤ bitmap_word start i
bitmap_word-high words start i slabs is = omega (arith, slabs.low start is)

pub index_word-high : (words : List ℕ) (start place : ℕ) → AreSlabsInHeap words → is_slab words start ≡ true → heap_word (version_in words) ≤ index_word start place
index_word-high words start place slabs is = omega (arith, slabs.low start is)

-- a reading under a test
where_same : {X : Type 0} (b c : Bool) (x y none : X) → b ≡ c → (c ≡ true → x ≡ y) → cond b x none ≡ cond c y none
where_same b c x y none same value = ap (λ b. cond b x none) same ∙ ⊎_elim
    (λ yes. cond-true c x none yes ∙ value yes ∙ sym (cond-true c y none yes))
    (λ no. cond-false c x none no ∙ sym (cond-false c y none no))
    (cases_Bool c)

and_same : (b c x y : Bool) → b ≡ c → (c ≡ true → x ≡ y) → (b && x) ≡ (c && y)
and_same b c x y same value = ap (λ b. b && x) same ∙ ⊎_elim
    (λ yes. ap (λ c. c && x) yes ∙ value yes ∙ sym (ap (λ c. c && y) yes))
    (λ no. ap (λ c. c && x) no ∙ sym (ap (λ c. c && y) no))
    (cases_Bool c)

-- what is read of the slab at a granule is the same where its words are
pub state_field-same : (words new : List ℕ) (start bits : ℕ) → is_slab new start ≡ is_slab words start → (is_slab words start ≡ true → word_at new (state_word start) ≡ word_at words (state_word start)) →
    state_field new start bits ≡ state_field words start bits
state_field-same words new start bits slab same = where_same (is_slab new start) (is_slab words start) _ _ 0 slab (λ is. ap (λ w. w / 2 ^ bits % 2 ^ 8) (same is))

pub live_at-same : (words new : List ℕ) (start place : ℕ) → is_slab new start ≡ is_slab words start →
    (is_slab words start ≡ true → place < 64 → word_at new (index_word start place) ≡ word_at words (index_word start place)) → live_at new start place ≡ live_at words start place
live_at-same words new start place slab same = and_same (is_slab new start) (is_slab words start) _ _ slab
    (λ is. and_same (ltb place 64) (ltb place 64) _ _ refl (λ below. ap (λ w. bit_of_word w 0) (same is (ltb-true place 64 below))))

pub number_at-same : (words new : List ℕ) (start place : ℕ) → is_slab new start ≡ is_slab words start →
    (is_slab words start ≡ true → place < 64 → word_at new (index_word start place) ≡ word_at words (index_word start place)) → number_at new start place ≡ number_at words start place
number_at-same words new start place slab same = where_same (is_slab new start && ltb place 64) (is_slab words start && ltb place 64) _ _ 0 (ap (λ b. b && ltb place 64) slab)
    (λ is.
    let parts = and_parts (is_slab words start) (ltb place 64) is in
    ap (λ w. w / 2 ^ 16 % 2 ^ 16) (same parts.0 (ltb-true place 64 parts.1)))

pub bit_at-same : (words new : List ℕ) (start i : ℕ) → is_slab new start ≡ is_slab words start → (is_slab words start ≡ true → i < 4096 → slab_bit new start i ≡ slab_bit words start i) →
    bit_at new start i ≡ bit_at words start i
bit_at-same words new start i slab same = and_same (is_slab new start) (is_slab words start) _ _ slab (λ is. and_same (ltb i 4096) (ltb i 4096) _ _ refl (λ below. same is (ltb-true i 4096 below)))

pub slab_bit-same : (words new : List ℕ) (start i : ℕ) → word_at new (bitmap_word start i) ≡ word_at words (bitmap_word start i) → slab_bit new start i ≡ slab_bit words start i
slab_bit-same words new start i same = ap (λ w. bit_of_word w (i / 8 % 64)) same

-- the header of a slab is the same but for its bits and its index table, where its state word is
pub slab_header-by : (words new : List ℕ) (start : ℕ) (bits lives : ℕ → Bool) (numbers : ℕ → ℕ) → is_slab new start ≡ is_slab words start →
    (is_slab words start ≡ true → word_at new (state_word start) ≡ word_at words (state_word start)) →
    ((i : ℕ) → bit_at new start i ≡ bits i) → ((place : ℕ) → live_at new start place ≡ lives place) → ((place : ℕ) → number_at new start place ≡ numbers place) →
    slab_header new start ≡ record (slab_header words start) { bit = bits; live = lives; number = numbers }
slab_header-by words new start bits lives numbers slab state bit live number k = record {
  kind = state_field-same words new start 0 slab state k;
  class = state_field-same words new start 8 slab state k;
  old = state_field-same words new start 16 slab state k;
  index_count = state_field-same words new start 24 slab state k;
  bit = λ i. bit i k;
  live = λ place. live place k;
  number = λ place. number place k;
}

-- it is the same where its words are
pub slab_header-same : (words new : List ℕ) (start : ℕ) → is_slab new start ≡ is_slab words start →
    (is_slab words start ≡ true → word_at new (state_word start) ≡ word_at words (state_word start)) →
    ((i : ℕ) → is_slab words start ≡ true → i < 4096 → word_at new (bitmap_word start i) ≡ word_at words (bitmap_word start i)) →
    ((place : ℕ) → is_slab words start ≡ true → place < 64 → word_at new (index_word start place) ≡ word_at words (index_word start place)) →
    slab_header new start ≡ slab_header words start
slab_header-same words new start slab state bitmap index =
    slab_header-by words new start (bit_at words start) (live_at words start) (number_at words start) slab state
    (λ i. bit_at-same words new start i slab (λ is below. slab_bit-same words new start i (bitmap i is below)))
    (λ place. live_at-same words new start place slab (index place))
    (λ place. number_at-same words new start place slab (index place))

-- and so where the words of the heap are
pub slab_header-heap : (words new : List ℕ) (start : ℕ) → AreSlabsInHeap words → is_slab new start ≡ is_slab words start →
    ((k : ℕ) → heap_word (version_in words) ≤ k → word_at new k ≡ word_at words k) → slab_header new start ≡ slab_header words start
slab_header-heap words new start slabs slab heap = slab_header-same words new start slab
    (λ is. heap (state_word start) (state_word-high words start slabs is))
    (λ i is below. heap (bitmap_word start i) (bitmap_word-high words start i slabs is))
    (λ place is below. heap (index_word start place) (index_word-high words start place slabs is))

-- the roots are the same where their words are
pub roots-same : (words new : List ℕ) → version_in new ≡ version_in words → ((root : ℕ) → root < (layout_of (version_in words)).roots → word_at new (root_word root) ≡ word_at words (root_word root)) →
    (root : ℕ) → root_in new root ≡ root_in words root
roots-same words new version same root = where_same (ltb root (layout_of (version_in new)).roots) (ltb root (layout_of (version_in words)).roots) _ _ 0
    (ap (λ version. ltb root (layout_of version).roots) version)
    (λ is. same root (ltb-true root (layout_of (version_in words)).roots is))

-- the open entry is the same where the write-ahead words are
pub entry_among-same : (row new : ℕ → ℕ) (n : ℕ) → ((line : ℕ) → line < n → new line ≡ row line) → entry_among new n ≡ entry_among row n
entry_among-same row new zero same = refl
entry_among-same row new (suc n) same =
    ap (λ w. cond (eqb w 0) (entry_among new n) (Some (entry_of_word w))) (same n (omega arith))
    ∙ ap (λ x. cond (eqb (row n) 0) x (Some (entry_of_word (row n)))) (entry_among-same row new n (λ line below. same line (omega arith)))

-- no move entry is open where none is
pub HasNoMove-closed : {entry : Option WalEntry} → entry ≡ None → HasNoMove entry
HasNoMove-closed {entry} closed = subst HasNoMove (sym closed) tt

-- while no move entry is open, each root holds its word
pub held_of-plain : (entry : Option WalEntry) (word : ℕ → ℕ) → HasNoMove entry → held_of entry word ≡ word
held_of-plain None word none = refl
held_of-plain (Some (Place root at old place)) word none = refl
held_of-plain (Some (Move from to)) word none = absurd none

pub roots_plain : (words : List ℕ) → HasNoMove (tables_of words).open_entry → (tables_of words).root ≡ (tables_of words).word
unfolding tables_of
roots_plain words none = held_of-plain (open_entry_in words) (root_in words) none

-- the tables, where the slabs stay the same
pub tables_by : (words new : List ℕ) (word : ℕ → ℕ) (entry : Option WalEntry) (large : ℕ → ℕ) (header : ℕ → SlabHeader) →
    ((start : ℕ) → is_slab new start ≡ is_slab words start) →
    ((r : ℕ) → root_in new r ≡ word r) →
    open_entry_in new ≡ entry →
    ((start : ℕ) → large_of (extent_at new start) ≡ large start) →
    ((start : ℕ) → slab_header new start ≡ header start) →
    tables_of new ≡ record (tables_of words) { word = word; root = held_of entry word; open_entry = entry; large = large; header = header }
unfolding tables_of
tables_by words new word entry large header slab roots entries larges headers = λ k. record {
  word = λ r. roots r k;
  root = held_of (entries k) (λ r. roots r k);
  open_entry = entries k;
  large = λ start. larges start k;
  slab = λ start. slab start k;
  header = λ start. headers start k;
}

-- the tables, where only the roots, the open entry and the large extents change
pub tables_over_heap : (words new : List ℕ) (word : ℕ → ℕ) (entry : Option WalEntry) (large : ℕ → ℕ) → AreSlabsInHeap words →
    ((start : ℕ) → is_slab new start ≡ is_slab words start) →
    ((k : ℕ) → heap_word (version_in words) ≤ k → word_at new k ≡ word_at words k) →
    ((r : ℕ) → root_in new r ≡ word r) →
    open_entry_in new ≡ entry →
    ((start : ℕ) → large_of (extent_at new start) ≡ large start) →
    tables_of new ≡ record (tables_of words) { word = word; root = held_of entry word; open_entry = entry; large = large }
unfolding tables_of
tables_over_heap words new word entry large slabs slab heap roots entries larges =
    tables_by words new word entry large (slab_header words) slab roots entries larges (λ start. slab_header-heap words new start slabs (slab start) heap)

-- stores to the log and the directory change the live extents alone
pub tables_off_log : (words new : List ℕ) (large : ℕ → ℕ) → IsSameOffLog words new → AreSlabsInHeap words → ((start : ℕ) → is_slab new start ≡ is_slab words start) →
    ((start : ℕ) → large_of (extent_at new start) ≡ large start) → tables_of new ≡ record (tables_of words) { large = large }
unfolding tables_of
tables_off_log words new large same slabs slab larges =
    tables_over_heap words new (root_in words) (open_entry_in words) large slabs slab
    (λ k high. heap_word-off_log words new k same high)
    (roots-same words new (version_in-off_log words new same) (λ root below. root_word-off_log words new root same below))
    (entry_among-same (λ line. word_at words (wal_word line)) (λ line. word_at new (wal_word line)) wal_lines (λ line below. wal_word-off_log words new line same below))
    larges

-- where they leave the live extents too, they change nothing
pub tables_off_log-same : (words new : List ℕ) → IsSameOffLog words new → AreSlabsInHeap words → ((start : ℕ) → extent_at new start ≡ extent_at words start) → tables_of new ≡ tables_of words
unfolding tables_of
tables_off_log-same words new same slabs extents =
    tables_off_log words new (tables_of words).large same slabs (λ start. ap is_slab_of (extents start)) (λ start. ap large_of (extents start))

-- a root word is none of the log's
pub IsOffLog-root : (words : List ℕ) (root : ℕ) → root < (layout_of (version_in words)).roots → IsOffLog words (root_word root)
IsOffLog-root words root below = record {
  fields = λ e. omega arith;
  directory = λ e. omega arith;
  place = inl (root_word-low (version_in words) root below);
}

-- a write-ahead word is none of the log's
pub IsOffLog-wal : (words : List ℕ) (line : ℕ) → line < wal_lines → IsOffLog words (wal_word line)
IsOffLog-wal words line below = record {
  fields = λ e. omega arith;
  directory = λ e. omega arith;
  place = inl (omega (arith, wal_word-low line below, log_start-low (version_in words)));
}

pub fields-put_root : (words : List ℕ) (root value : ℕ) → word_at (put_word words (root_word root) value) fields_word ≡ word_at words fields_word
fields-put_root words root value = word_at-put_other words (root_word root) fields_word value (λ e. omega arith)

pub version_in-put_root : (words : List ℕ) (root value : ℕ) → version_in (put_word words (root_word root) value) ≡ version_in words
version_in-put_root words root value = ap version_field (fields-put_root words root value)

pub granules_in-put_root : (words : List ℕ) (root value : ℕ) → granules_in (put_word words (root_word root) value) ≡ granules_in words
granules_in-put_root words root value = ap granules_field (fields-put_root words root value)

pub wal_word-put_root : (words : List ℕ) (root value line : ℕ) → line < wal_lines → word_at (put_word words (root_word root) value) (wal_word line) ≡ word_at words (wal_word line)
wal_word-put_root words root value line below = word_at-put_other words (root_word root) (wal_word line) value (λ e. omega (arith, e, wal_word-low line below))

pub heap_word-put_root : (words : List ℕ) (root value k : ℕ) → root < (layout_of (version_in words)).roots → heap_word (version_in words) ≤ k → word_at (put_word words (root_word root) value) k ≡ word_at words k
heap_word-put_root words root value k below high =
    let version = version_in words in
    word_at-put_other words (root_word root) k value (λ e. omega (arith, e, high, root_word-low version root below, log_start-high version))

pub extent_at-put_root : (words : List ℕ) (root value start : ℕ) → root < (layout_of (version_in words)).roots → extent_at (put_word words (root_word root) value) start ≡ extent_at words start
extent_at-put_root words root value start below = extent_at-elsewhere words (root_word root) value start (IsOffLog-root words root below)

-- a store of a root word changes that word, and what roots hold by it
pub tables_store_root : (words : List ℕ) (root value : ℕ) → root < (layout_of (version_in words)).roots → root_word root < length words → AreSlabsInHeap words →
    tables_of (put_word words (root_word root) value)
    ≡ record (tables_of words) { word = put_at (tables_of words).word root value; root = held_of (tables_of words).open_entry (put_at (tables_of words).word root value) }
unfolding tables_of
tables_store_root words root value below inside slabs =
    let new = put_word words (root_word root) value in
    let roots = (layout_of (version_in words)).roots in
    let table : ℕ → ℕ = root_in words in
    tables_over_heap words new (put_at table root value) (open_entry_in words) (tables_of words).large slabs
    (λ start. ap is_slab_of (extent_at-put_root words root value start below))
    (λ k high. heap_word-put_root words root value k below high)
    (λ r.
    ap (λ version. cond (ltb r (layout_of version).roots) (word_at new (root_word r)) 0) (version_in-put_root words root value)
    ∙ ⊎_elim
    (λ (here : r ≡ root).
    ap (λ r. cond (ltb r roots) (word_at new (root_word r)) 0) here
    ∙ cond-true (ltb root roots) (word_at new (root_word root)) 0 (lt-ltb root roots below)
    ∙ word_at-put_same words (root_word root) (root_word root) value refl inside
    ∙ sym (put_at-same table root value)
    ∙ ap (put_at table root value) (sym here))
    (λ (other : r ≢ root).
    ap (λ w. cond (ltb r roots) w 0) (word_at-put_other words (root_word root) (root_word r) value (λ e. other (omega arith)))
    ∙ sym (put_at-other table root r value other))
    (cases_eq r root))
    (entry_among-same (λ line. word_at words (wal_word line)) (λ line. word_at new (wal_word line)) wal_lines (λ line less. wal_word-put_root words root value line less))
    (λ start. ap large_of (extent_at-put_root words root value start below))

-- while no move entry is open, it changes that root
pub tables_put_root : (words : List ℕ) (root value : ℕ) → root < (layout_of (version_in words)).roots → root_word root < length words → AreSlabsInHeap words → HasNoMove (tables_of words).open_entry →
    tables_of (put_word words (root_word root) value) ≡ with_root (tables_of words) root value
tables_put_root words root value below inside slabs none =
    let t = tables_of words in
    let plain : held_of t.open_entry (put_at t.word root value) ≡ put_at t.root root value =
    held_of-plain t.open_entry (put_at t.word root value) none ∙ ap (λ (f : ℕ → ℕ). put_at f root value) (sym (roots_plain words none)) in
    tables_store_root words root value below inside slabs ∙ (λ i. record t { word = put_at t.word root value; root = plain i })

none_among : (row : ℕ → ℕ) (n : ℕ) → entry_among row n ≡ None → (line : ℕ) → line < n → row line ≡ 0
none_among row zero closed line below = absurd (omega arith)
none_among row (suc n) closed line below = ⊎_elim
    (λ (is : eqb (row n) 0 ≡ true).
    let rest : entry_among row n ≡ None = sym (cond-true (eqb (row n) 0) (entry_among row n) (Some (entry_of_word (row n))) is) ∙ closed in
    ⊎_elim
    (λ (here : line ≡ n). ap row here ∙ eqb-true (row n) 0 is)
    (λ (other : line ≢ n). none_among row n rest line (omega (arith, below, other)))
    (cases_eq line n))
    (λ (is : eqb (row n) 0 ≡ false).
    let some : Some (entry_of_word (row n)) ≡ None = sym (cond-false (eqb (row n) 0) (entry_among row n) (Some (entry_of_word (row n))) is) ∙ closed in
    absurd (cc))
    (cases_Bool (eqb (row n) 0))

-- where no entry is open each write-ahead word is 0
pub closed_words : (words : List ℕ) → (tables_of words).open_entry ≡ None → (line : ℕ) → line < wal_lines → word_at words (wal_word line) ≡ 0
unfolding tables_of
closed_words words closed line below = none_among (λ line. word_at words (wal_word line)) wal_lines closed line below
