-- When the words of an arena keep their form.
use Rattle.std.proofs.Common.{◌≡◌, ◌≢◌, ◌≤◌, ◌⊎◌, ◌+◌, inl, inr, true≢false, false, refl, ⊎_elim, ◌*◌, ◌/◌, ◌%◌, ◌^◌, ◌<◌, ℕ, true, List, length, sym, ap, ◌∙◌, subst, arith}
use Rattle.heap_check.proofs.Common.{cond-true, cases_eq, cases_lt, word_at, put_word, word_at-put_same, word_at-put_other, length-put_word, layout_of, text_word, fields_word, root_word, wal_word, heap_word, granule_word, blocks_place, version_field, granules_field, version_in, granules_in, fields_of, IsHeader, log_start-low, IsSameOffLog, text-off_log, fields-off_log, wal_word-off_log, heap_word-off_log, state_word-high, index_word-high, IsOffLog-root, fields-put_root, wal_word-put_root, heap_word-put_root, extent_at-put_root, wal_word-low, log_start-high, IsOffLog-wal, state_field-same, HasLog, HasLog-same, Bounds, IsWalWord, IsIndexWord}
use Rattle.image_tables.specs.Tables.{is_slab_of, is_slab, AreSlabsInHeap, where_slab, state_word, bitmap_word, index_word, state_field, wal_lines, tables_of}
use Rattle.image_tables.proofs.Extents.{extent_at-elsewhere}
use Rattle.image_tables.proofs.Headers.{IsSameOffHeader, IsSameOffHeader-put, SameLog-off_header, is_slab-off_header}
use Rattle.image_tables.proofs.Logs.{SameLog-elsewhere}
use Rattle.heap_check.specs.Sound.{granules_at, IsSound}
use Rattle.heap_check.specs.Image.{bounds_of, header_in, HasWal, HasSlabHeader, IsFormed}

-- the slabs of a sound image begin in the heap
pub AreSlabsInHeap-sound : (words : List ℕ) → IsSound (bounds_of words) (tables_of words) → AreSlabsInHeap words
unfolding tables_of
AreSlabsInHeap-sound words sound = record {
  low = λ start is.
      let four : granules_at (tables_of words) start ≡ 4 = cond-true (is_slab words start) 4 ((tables_of words).large start) is in
      (sound.extents.starts start (omega (arith, four))).0;
}

-- the numbers of an arena of which the header line has this second word
abbrev bounds_of_fields : ℕ → Bounds
bounds_of_fields word = record { roots = (layout_of (version_field word)).roots; first = (layout_of (version_field word)).first_granule; granules = granules_field word }

-- Words that the form of an arena is read off are the same, but for the log's and the write-ahead words.
pub record SameForm (words new : List ℕ) : Type 0 where
  pub same_length : length new ≡ length words
  pub text : word_at new text_word ≡ word_at words text_word
  pub fields : word_at new fields_word ≡ word_at words fields_word
  pub slab : (start : ℕ) → is_slab new start ≡ is_slab words start
  pub state : (start : ℕ) → is_slab words start ≡ true → word_at new (state_word start) ≡ word_at words (state_word start)
  pub index : (start place : ℕ) → is_slab words start ≡ true → place < state_field words start 24 → word_at new (index_word start place) ≡ word_at words (index_word start place)

pub IsHeader-same : (words new : List ℕ) → length new ≡ length words → word_at new text_word ≡ word_at words text_word → word_at new fields_word ≡ word_at words fields_word → IsHeader words (header_in words) →
    IsHeader new (header_in new)
IsHeader-same words new size text fields header = subst (IsHeader new) (sym (ap fields_of fields)) (record {
  whole = omega (arith, size, header.whole);
  text = text ∙ header.text;
  word = fields ∙ header.word;
  valid = header.valid;
})

pub HasWal-same : (words new : List ℕ) → ((line : ℕ) → line < wal_lines → word_at new (wal_word line) ≡ word_at words (wal_word line)) → HasWal words → HasWal new
HasWal-same words new same wal = record {
  entry = λ line below some. subst IsWalWord (sym (same line below)) (wal.entry line below (λ none. some (same line below ∙ none)));
  one = λ line other below under some another.
      wal.one line other below under (λ none. some (same line below ∙ none)) (λ none. another (same other under ∙ none));
}

pub HasSlabHeader-same : (words new : List ℕ) (start : ℕ) → SameForm words new → is_slab new start ≡ true → HasSlabHeader words start → HasSlabHeader new start
HasSlabHeader-same words new start same is header =
    let was : is_slab words start ≡ true = sym (same.slab start) ∙ is in
    let entries : state_field new start 24 ≡ state_field words start 24 =
    ap (λ b. where_slab b (word_at new (state_word start) / 2 ^ 24 % 2 ^ 8)) (same.slab start)
    ∙ ap (λ w. where_slab (is_slab words start) (w / 2 ^ 24 % 2 ^ 8)) (same.state start was) in
    record {
      state = omega (arith, same.state start was, header.state);
      index = λ place below. let among : place < state_field words start 24 = omega (arith, entries, below) in
          subst IsIndexWord (sym (same.index start place was among)) (header.index place among);
    }

-- the form stays where those words do, and the log and the write-ahead words are well formed
pub IsFormed-same : (words new : List ℕ) → SameForm words new → HasLog (granules_in words) new → HasWal new → IsFormed words → IsFormed new
IsFormed-same words new same log wal formed = record {
  header = IsHeader-same words new same.same_length same.text same.fields formed.header;
  size = same.same_length ∙ formed.size ∙ sym (ap (λ w. 2048 * granules_field w) same.fields);
  log = subst (λ granules. HasLog granules new) (sym (ap granules_field same.fields)) log;
  wal = wal;
  slabs = λ start is. HasSlabHeader-same words new start same is (formed.slabs start (sym (same.slab start) ∙ is));
}

-- stores to the log and the directory
pub bounds_of-off_log : (words new : List ℕ) → IsSameOffLog words new → bounds_of new ≡ bounds_of words
bounds_of-off_log words new same = ap bounds_of_fields (fields-off_log words new same)

pub IsFormed-off_log : (words new : List ℕ) → IsFormed words → IsSameOffLog words new → AreSlabsInHeap words → HasLog (granules_in words) new → ((start : ℕ) → is_slab new start ≡ is_slab words start) → IsFormed new
IsFormed-off_log words new formed same slabs log slab = IsFormed-same words new (record {
  same_length = same.same_length;
  text = text-off_log words new same;
  fields = fields-off_log words new same;
  slab = slab;
  state = λ start is. heap_word-off_log words new (state_word start) same (state_word-high words start slabs is);
  index = λ start place is below. heap_word-off_log words new (index_word start place) same (index_word-high words start place slabs is);
}) log (HasWal-same words new (λ line below. wal_word-off_log words new line same below) formed.wal) formed

-- they are the same where that word is
pub bounds_of-same : (words new : List ℕ) → word_at new fields_word ≡ word_at words fields_word → bounds_of new ≡ bounds_of words
bounds_of-same words new same = ap bounds_of_fields same

-- a store elsewhere than to the header line's second word
pub bounds_of-put_word : (words : List ℕ) (k value : ℕ) → fields_word ≢ k → bounds_of (put_word words k value) ≡ bounds_of words
bounds_of-put_word words k value apart = ap bounds_of_fields (word_at-put_other words k fields_word value apart)

-- a store of a root word
pub bounds_of-put_root : (words : List ℕ) (root value : ℕ) → bounds_of (put_word words (root_word root) value) ≡ bounds_of words
bounds_of-put_root words root value = ap bounds_of_fields (fields-put_root words root value)

pub IsFormed-put_root : (words : List ℕ) (root value : ℕ) → IsFormed words → root < (layout_of (version_in words)).roots → root_word root < length words → AreSlabsInHeap words → IsFormed (put_word words (root_word root) value)
IsFormed-put_root words root value formed below inside slabs =
    let new = put_word words (root_word root) value in
    IsFormed-same words new (record {
      same_length = length-put_word words (root_word root) value;
      text = word_at-put_other words (root_word root) text_word value (λ e. omega arith);
      fields = fields-put_root words root value;
      slab = λ start. ap is_slab_of (extent_at-put_root words root value start below);
      state = λ start is. heap_word-put_root words root value (state_word start) below (state_word-high words start slabs is);
      index = λ start place is few. heap_word-put_root words root value (index_word start place) below (index_word-high words start place slabs is);
    })
    (HasLog-same (granules_in words) words new (SameLog-elsewhere words (root_word root) value (IsOffLog-root words root below)) formed.log)
    (HasWal-same words new (λ line few. wal_word-put_root words root value line few) formed.wal)
    formed

-- a store of a write-ahead word, where no other line has an entry
pub IsFormed-put_wal : (words : List ℕ) (line value : ℕ) → IsFormed words → line < wal_lines → AreSlabsInHeap words → ((other : ℕ) → other < wal_lines → other ≢ line → word_at words (wal_word other) ≡ 0) → (value ≢ 0 → IsWalWord value) →
    wal_word line < length words → IsFormed (put_word words (wal_word line) value)
IsFormed-put_wal words line value formed below slabs alone valid inside =
    let at = wal_word line in
    let new = put_word words at value in
    let off = IsOffLog-wal words line below in
    let version = version_in words in
    let heap : (k : ℕ) → heap_word version ≤ k → word_at new k ≡ word_at words k =
    λ k high. word_at-put_other words at k value (λ e. omega (arith, e, high, wal_word-low line below, log_start-low version, log_start-high version)) in
    let here : word_at new at ≡ value = word_at-put_same words at at value refl inside in
    let none : (other : ℕ) → other < wal_lines → other ≢ line → word_at new (wal_word other) ≡ 0 =
    λ other under apart. word_at-put_other words at (wal_word other) value (λ e. apart (omega (arith, e))) ∙ alone other under apart in
    let only : (other : ℕ) → other < wal_lines → word_at new (wal_word other) ≢ 0 → other ≡ line =
    λ other under some. ⊎_elim (λ (is : other ≡ line). is) (λ (apart : other ≢ line). absurd (some (none other under apart))) (cases_eq other line) in
    IsFormed-same words new (record {
      same_length = length-put_word words at value;
      text = word_at-put_other words at text_word value (λ e. omega arith);
      fields = word_at-put_other words at fields_word value (λ e. omega arith);
      slab = λ start. ap is_slab_of (extent_at-elsewhere words at value start off);
      state = λ start is. heap (state_word start) (state_word-high words start slabs is);
      index = λ start place is few. heap (index_word start place) (index_word-high words start place slabs is);
    })
    (HasLog-same (granules_in words) words new (SameLog-elsewhere words at value off) formed.log)
    (record {
      entry = λ other under some.
          let is : word_at new (wal_word other) ≡ value = ap (λ l. word_at new (wal_word l)) (only other under some) ∙ here in
          subst IsWalWord (sym is) (valid (λ zero_word. some (is ∙ zero_word)));
      one = λ other another under beneath some more. only other under some ∙ sym (only another beneath more);
    })
    formed

-- a store to the bitmap of a slab, where no slab has more than 64 index entries
pub IsFormed-put_bitmap : (words : List ℕ) (start i value : ℕ) → IsFormed words → (layout_of (version_in words)).first_granule ≤ start → i < 4096 → ((other : ℕ) → is_slab words other ≡ true → state_field words other 24 ≤ 64) →
    IsFormed (put_word words (bitmap_word start i) value)
IsFormed-put_bitmap words start i value formed in_heap below few =
    let at = bitmap_word start i in
    let new = put_word words at value in
    let off = IsSameOffHeader-put words start at value in_heap (omega arith) (omega (arith, below)) in
    let version = version_in words in
    let high : heap_word version ≤ at = omega (arith, in_heap) in
    let low : (k : ℕ) → k < 2048 → word_at new k ≡ word_at words k =
    λ k small. word_at-put_other words at k value (λ e. omega (arith, e, high, small, log_start-low version, log_start-high version)) in
    IsFormed-same words new (record {
      same_length = length-put_word words at value;
      text = low text_word (omega arith);
      fields = low fields_word (omega arith);
      slab = λ other. is_slab-off_header words new start other off;
      state = λ other is. word_at-put_other words at (state_word other) value (λ e. omega (arith, e, below));
      index = λ other place is under. word_at-put_other words at (index_word other place) value (λ e. omega (arith, e, below, under, few other is));
    })
    (HasLog-same (granules_in words) words new (SameLog-off_header words new start off) formed.log)
    (HasWal-same words new (λ line under. low (wal_word line) (wal_word-low line under)) formed.wal)
    formed

-- what is read of a slab's header is the same where the words are
HasSlabHeader-kept : (words new : List ℕ) (start : ℕ) → is_slab words start ≡ true → is_slab new start ≡ true → word_at new (state_word start) ≡ word_at words (state_word start) →
    ((place : ℕ) → place < state_field words start 24 → word_at new (index_word start place) ≡ word_at words (index_word start place)) → HasSlabHeader words start → HasSlabHeader new start
HasSlabHeader-kept words new start was is state index header =
    let entries : state_field new start 24 ≡ state_field words start 24 = state_field-same words new start 24 (is ∙ sym was) (λ yes. state) in
    record {
      state = omega (arith, state, header.state);
      index = λ place below. let among : place < state_field words start 24 = omega (arith, entries, below) in subst IsIndexWord (sym (index place among)) (header.index place among);
    }

-- stores to the log and the directory, behind which slabs come and go
pub IsFormed-logged : (words new : List ℕ) → IsFormed words → IsSameOffLog words new → AreSlabsInHeap words → HasLog (granules_in words) new → ((start : ℕ) → is_slab new start ≡ true → (is_slab words start ≡ true) ⊎ HasSlabHeader new start) → IsFormed new
IsFormed-logged words new formed same slabs log headers = record {
  header = IsHeader-same words new same.same_length (text-off_log words new same) (fields-off_log words new same) formed.header;
  size = same.same_length ∙ formed.size ∙ sym (ap (λ w. 2048 * granules_field w) (fields-off_log words new same));
  log = subst (λ granules. HasLog granules new) (sym (ap granules_field (fields-off_log words new same))) log;
  wal = HasWal-same words new (λ line below. wal_word-off_log words new line same below) formed.wal;
  slabs = λ start is. ⊎_elim
      (λ was. HasSlabHeader-kept words new start was is (heap_word-off_log words new (state_word start) same (state_word-high words start slabs was))
      (λ place among. heap_word-off_log words new (index_word start place) same (index_word-high words start place slabs was)) (formed.slabs start was))
      (λ header. header)
      (headers start is);
}

-- stores to the header at a granule at which no slab begins, where no slab has more than 64 index entries
pub IsFormed-off_header : (words new : List ℕ) (start : ℕ) → IsFormed words → IsSameOffHeader words new start → length new ≡ length words → is_slab words start ≡ false → ((other : ℕ) → is_slab words other ≡ true → state_field words other 24 ≤ 64) →
    IsFormed new
IsFormed-off_header words new start formed same size none few =
    let version = version_in words in
    let low : (k : ℕ) → k < 2048 → word_at new k ≡ word_at words k = λ k small. same.others k (inl (omega (arith, small, same.in_heap, log_start-low version, log_start-high version))) in
    let apart : (other : ℕ) → is_slab words other ≡ true → other ≢ start = λ other is e. true≢false (sym is ∙ ap (is_slab words) e ∙ none) in
    let there : (other k : ℕ) → is_slab words other ≡ true → granule_word other ≤ k → k < granule_word other + blocks_place → word_at new k ≡ word_at words k = λ other k is from to. same.others k (⊎_elim
    (λ (before : other < start). inl (omega (arith, before, to)))
    (λ (behind : start ≤ other). inr (omega (arith, behind, apart other is, from)))
    (cases_lt other start)) in
    IsFormed-same words new (record {
      same_length = size;
      text = low text_word (omega arith);
      fields = low fields_word (omega arith);
      slab = λ other. is_slab-off_header words new start other same;
      state = λ other is. there other (state_word other) is (omega arith) (omega arith);
      index = λ other place is below. there other (index_word other place) is (omega arith) (omega (arith, below, few other is));
    })
    (HasLog-same (granules_in words) words new (SameLog-off_header words new start same) formed.log)
    (HasWal-same words new (λ line under. low (wal_word line) (wal_word-low line under)) formed.wal)
    formed
