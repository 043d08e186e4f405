-- An arena of 16 granules in which a slab of class 6 was made at granule 4, and no root has a block.
use Rattle.std.proofs.Common.{◌≡◌, ◌≢◌, ◌&&◌, ◌*◌, ◌/◌, ◌%◌, ◌^◌, ◌<◌, ◌≤◌, ⊎_elim, inl, ℕ, Bool, true, false, true≢false, eqb, ltb, Some, None, List, length, refl, sym, ap, subst, ◌∙◌, arith}
use Rattle.std.proofs.lemmas.Bool.{false≢true, cases_eq, cond-true, cond-false, ne_eqb, cases_lt, le-ltb}
use Rattle.step_tests.proofs.Common.{word_at, put_word, AreZeros, word_at-put_same, word_at-put_other, length-put_word, Layout, text_word, fields_word, directory_word, entry_slot, root_word, wal_word, version_field, granules_field, version_in, granules_in, fields_of, header_text, header_word, IsHeader, extent_at, Normal, with_entry, IsFormatted}
use Rattle.pool_layout.specs.declared.header.PoolHeader.{PoolHeader}
use Rattle.pool_layout.specs.Layout.{first_layout, layout_of, all_granules}
use Rattle.pool_layout.proofs.Layouts.{first_row, first_version}
use Rattle.image_tables.specs.declared.extent.Extent.TheVariants as extent
use Rattle.image_tables.specs.Tables.{Tables, held_of, root_in, open_entry_in, wal_lines, large_of, is_slab_of, is_slab, state_word, bitmap_word, state_field, bit_at, bit_of_word, slab_bit, tables_of}
use Rattle.image_tables.proofs.Chunks.{few_chunks}
use Rattle.image_tables.proofs.Extents.{extent_at-same}
use Rattle.image_tables.proofs.Logs.{SameLog}
use Rattle.image_tables.proofs.Places.{entry_slot-high}
use Rattle.image_tables.proofs.Stores.{wal_word-low, slab_header-same, roots-same, entry_among-same}
use Rattle.slab_header.specs.State.{word_of_state}
use Rattle.slab_header.specs.Steps.{IsMade}
use Rattle.slab_header.proofs.Tables.{bit_of_word-zero}
use Rattle.book_log.specs.declared.entry.LogEntry.TheVariants.{Slab}
use Rattle.book_log.specs.Book.{HasLog, IsInLog}
use Rattle.book_log.specs.Entry.{log_word as word_of_entry}
use Rattle.book_log.proofs.Appending.{with_entry-same}
use Rattle.step_tests.proofs.Fresh.{fresh_none}
use Rattle.size_classes.specs.Classes.{class_size, class_capacity, sizes}
use Rattle.heap_model.specs.Machine.{Bounds, slab_block}
use Rattle.heap_check.specs.Laws.{AreBlank}
use Rattle.heap_check.specs.Sound.{IsExact, IsExactBut}
use Rattle.heap_check.specs.Image.{bounds_of, header_in, HasSlabHeader, IsFormed, IsExactButImage}
use Rattle.heap_check.proofs.Formatted.{AreBlank-formatted, header_in-formatted, IsFormed-formatted, law_of_formatted}
use Rattle.heap_check.proofs.Geometry.{granules_at-large}
use Rattle.heap_check.proofs.Loose.{IsExactBut-exact}
use Rattle.heap_check.specs.Slabs.{IsWithSlab}
use Rattle.heap_check.proofs.Slabs.{IsSlabPlace, holds_none-fresh}
use Rattle.heap_check.proofs.SlabPlaces.{IsSlabPlace-vacant}
use Rattle.heap_check.proofs.SlabSound.{IsExactBut-slab}
use Rattle.attach_steps.specs.declared.block.SmallBlock.{SmallBlock}
use Rattle.attach_steps.specs.Steps.{IsBlockIn, IsAttachable, IsDetachable, IsAttached}

abbrev pub header : PoolHeader
header = record { version = 1; number = 0; arenas = 1; granules = 16 }

-- block 9 of the slab
abbrev pub block : SmallBlock
block = record { start = 4; number = 9; at = 68592 }

-- an arena is formatted on zeros, by three words
pub formatted_by : {zero one two three : List ℕ} {a b c text : ℕ} → AreZeros zero → length zero ≡ 32768 → a ≡ 8 * fields_word → one ≡ put_word zero (a / 8) (header_word header) →
    b ≡ 8 * directory_word → two ≡ put_word one (b / 8) 1 → c ≡ 8 * text_word → text ≡ header_text → three ≡ put_word two (c / 8) text → IsFormatted three header
unfolding layout_of all_granules
formatted_by {zero} {one} {two} {three} {a} {b} {c} {text} zeros size at_a is_one at_b is_two at_c is_text is_three =
    let first : one ≡ put_word zero fields_word (header_word header) = is_one ∙ ap (λ i. put_word zero (i / 8) (header_word header)) at_a in
    let second : two ≡ put_word one directory_word 1 = is_two ∙ ap (λ i. put_word one (i / 8) 1) at_b in
    let third : three ≡ put_word two text_word header_text = is_three ∙ ap (λ i. put_word two (i / 8) text) at_c ∙ ap (put_word two text_word) is_text in
    let length_one : length one ≡ 32768 = ap length first ∙ length-put_word zero fields_word (header_word header) ∙ size in
    let length_two : length two ≡ 32768 = ap length second ∙ length-put_word one directory_word 1 ∙ length_one in
    let length_three : length three ≡ 32768 = ap length third ∙ length-put_word two text_word header_text ∙ length_two in
    let read_one : (k : ℕ) → k ≢ fields_word → word_at one k ≡ word_at zero k = λ k apart. ap (λ (ws : List ℕ). word_at ws k) first ∙ word_at-put_other zero fields_word k (header_word header) apart in
    let read_two : (k : ℕ) → k ≢ directory_word → word_at two k ≡ word_at one k = λ k apart. ap (λ (ws : List ℕ). word_at ws k) second ∙ word_at-put_other one directory_word k 1 apart in
    let read : (k : ℕ) → k ≢ text_word → word_at three k ≡ word_at two k = λ k apart. ap (λ (ws : List ℕ). word_at ws k) third ∙ word_at-put_other two text_word k header_text apart in
    record {
      header = record {
        whole = omega (arith, length_three);
        text = ap (λ (ws : List ℕ). word_at ws text_word) third ∙ word_at-put_same two text_word text_word header_text refl (omega (arith, length_two));
        word = read fields_word (λ e. omega (arith, e)) ∙ read_two fields_word (λ e. omega (arith, e)) ∙ ap (λ (ws : List ℕ). word_at ws fields_word) first
            ∙ word_at-put_same zero fields_word fields_word (header_word header) refl (omega (arith, size));
        valid = record { version = first_version; some = omega arith; most = omega arith; number = omega arith; least = omega arith; greatest = omega arith; together = omega arith };
      };
      size = length_three;
      directory = read directory_word (λ e. omega (arith, e)) ∙ ap (λ (ws : List ℕ). word_at ws directory_word) second ∙ word_at-put_same one directory_word directory_word 1 refl (omega (arith, length_one));
      rest = λ k behind. read k (λ e. omega (arith, e, behind)) ∙ read_two k (λ e. omega (arith, e, behind)) ∙ read_one k (λ e. omega (arith, e, behind)) ∙ zeros.each k;
    }

-- its numbers are those of version 1
pub formatted_row : {words : List ℕ} → IsFormatted words header → layout_of (version_in words) ≡ first_layout
formatted_row {words} formatted = ap (λ (h : PoolHeader). layout_of h.version) (header_in-formatted words header formatted) ∙ first_row

-- its log is well formed
pub log_by : {words : List ℕ} {granules : ℕ} → IsFormatted words header → granules ≡ 16 → HasLog granules words
log_by {words} {granules} formatted same =
    let size : granules_in words ≡ 16 = ap (λ (h : PoolHeader). h.granules) (header_in-formatted words header formatted) in
    subst (λ n. HasLog n words) (size ∙ sym same) (IsFormed-formatted words header formatted).log

-- the slab is made, and the log stays
pub same_log : {words made : List ℕ} → IsFormatted words header → IsMade words made 4 6 → SameLog words made
same_log {words} {made} formatted slab = record {
  fields = slab.kept.others fields_word (inl (omega arith));
  directory = slab.kept.others directory_word (inl (omega arith));
  chunks = λ i d below.
      let directory = word_at words directory_word in
      let heap : (layout_of (version_in words)).first_granule ≡ 4 = ap (λ (r : Layout). r.first_granule) (formatted_row formatted) in
      record { each = λ entry less. slab.kept.others _ (inl (omega (arith, heap, entry_slot-high (version_in words) _ entry (few_chunks directory i d below) less))) };
}

-- and so do the numbers
pub made_row : {words made : List ℕ} → IsFormatted words header → IsMade words made 4 6 → layout_of (version_in made) ≡ first_layout
made_row formatted slab = ap (λ w. layout_of (version_field w)) (slab.kept.others fields_word (inl (omega arith))) ∙ formatted_row formatted

-- behind the words of an arena in which nothing was allocated come those with the slab
pub record IsOneSlab (words new : List ℕ) : Type 0 where
  pub formatted : IsFormatted words header
  pub low : (k : ℕ) → k < 6144 → word_at new k ≡ word_at words k
  pub state : word_at new (state_word 4) ≡ word_of_state (Normal 6)
  pub clear : (i : ℕ) → i < 4096 → word_at new (bitmap_word 4 i) ≡ 0
  pub extents : (start : ℕ) → extent_at new start ≡ with_entry (λ _. None) (Slab 4) start
  pub log : HasLog 16 new
  pub size : length new ≡ 32768

-- the log has the slab
one_slab_by : {words made new : List ℕ} {k granules : ℕ} → IsFormatted words header → IsMade words made 4 6 → IsInLog (version_in made) k → new ≡ put_word made k (word_of_entry (Slab 4)) →
    ((start : ℕ) → extent_at new start ≡ with_entry (extent_at made) (Slab 4) start) → HasLog granules new → granules ≡ 16 → IsOneSlab words new
one_slab_by {words} {made} {new} {k} {granules} formatted slab place is extents log same =
    let row = made_row formatted slab in
    let low : 6144 < k = omega (arith, place.low, ap (λ (r : Layout). r.log_at) row) in
    let high : k < 8192 = omega (arith, place.high, ap (λ (r : Layout). r.first_granule) row) in
    let read : (i : ℕ) → i ≢ k → word_at new i ≡ word_at made i = λ i apart. ap (λ (ws : List ℕ). word_at ws i) is ∙ word_at-put_other made k i (word_of_entry (Slab 4)) apart in
    record {
      formatted = formatted;
      low = λ i below. read i (λ e. omega (arith, e, below, low)) ∙ slab.kept.others i (inl (omega (arith, below)));
      state = read (state_word 4) (λ e. omega (arith, e, high)) ∙ slab.state;
      clear = λ i below. read (bitmap_word 4 i) (λ e. omega (arith, e, high)) ∙ slab.clear i below;
      extents = λ start. extents start
          ∙ with_entry-same (extent_at made) (λ _. None) (Slab 4) start
          (extent_at-same words made start (same_log formatted slab)
          ∙ fresh_none words start (record { directory = formatted.directory; empty = λ entry. formatted.rest (entry_slot (version_in words) 0 entry) (omega arith) }));
      log = subst (λ n. HasLog n new) same log;
      size = ap length is ∙ length-put_word made k (word_of_entry (Slab 4)) ∙ slab.kept.same_length ∙ formatted.size;
    }

-- the numbers of an arena of which the header line has this second word
abbrev bounds_by : ℕ → Bounds
bounds_by word = record { roots = (layout_of (version_field word)).roots; first = (layout_of (version_field word)).first_granule; granules = granules_field word }

-- a test whose last part fails, and one whose middle part does
last_fails : (a b c : Bool) → c ≡ false → a && (b && c) ≡ false
last_fails true true c none = none
last_fails true false c none = refl
last_fails false b c none = refl

middle_fails : (a b c : Bool) → b ≡ false → a && (b && c) ≡ false
middle_fails true true c none = absurd (true≢false none)
middle_fails true false c none = refl
middle_fails false b c none = refl

module _ (words new : List ℕ) (one : IsOneSlab words new) where
  -- before, nothing
  blank : AreBlank (tables_of words)
  blank = AreBlank-formatted words header one.formatted

  exact : IsExact (bounds_of words) (tables_of words)
  exact = (law_of_formatted words header one.formatted).0.exact

  was : granules_in words ≡ 16
  was = ap (λ (h : PoolHeader). h.granules) (header_in-formatted words header one.formatted)

  -- the header line is the same
  fields : word_at new fields_word ≡ word_at words fields_word
  fields = one.low fields_word (omega arith)

  bounds : bounds_of new ≡ bounds_of words
  bounds = ap bounds_by fields

  version : version_in new ≡ version_in words
  version = ap version_field fields

  granules : granules_in new ≡ 16
  granules = ap granules_field fields ∙ was

  -- the slab, and no other extent
  slab_here : is_slab new 4 ≡ true
  slab_here = ap is_slab_of (one.extents 4)

  none_other : (start : ℕ) → start ≢ 4 → extent_at new start ≡ None
  none_other start differ = one.extents start ∙ cond-false (eqb start 4) (Some extent.Slab) None (ne_eqb start 4 differ)

  slab_other : (start : ℕ) → start ≢ 4 → is_slab new start ≡ false
  slab_other start differ = ap is_slab_of (none_other start differ)

  no_large : (start : ℕ) → large_of (extent_at new start) ≡ 0
  no_large start = ⊎_elim (λ (here : start ≡ 4). ap large_of (ap (extent_at new) here ∙ one.extents 4)) (λ (differ : start ≢ 4). ap large_of (none_other start differ)) (cases_eq start 4)

  -- what its state word says
  field : (bits value : ℕ) → word_of_state (Normal 6) / 2 ^ bits % 2 ^ 8 ≡ value → state_field new 4 bits ≡ value
  field bits value is = cond-true (is_slab new 4) (word_at new (state_word 4) / 2 ^ bits % 2 ^ 8) 0 slab_here ∙ ap (λ w. w / 2 ^ bits % 2 ^ 8) one.state ∙ is

  no_entries : state_field new 4 24 ≡ 0
  no_entries = field 24 0 (omega arith)

  -- no entry is open
  closed : (line : ℕ) → line < wal_lines → word_at new (wal_word line) ≡ 0
  closed line below = one.low (wal_word line) (omega (arith, wal_word-low line below)) ∙ one.formatted.rest (wal_word line) (omega arith)

  header_is : header_in new ≡ header
  header_is = ap fields_of fields ∙ header_in-formatted words header one.formatted

  -- the words have the form of an arena
  formed : IsFormed new
  formed = record {
    header = subst (IsHeader new) (sym header_is) (record {
      whole = omega (arith, one.size);
      text = one.low text_word (omega arith) ∙ one.formatted.header.text;
      word = fields ∙ one.formatted.header.word;
      valid = one.formatted.header.valid;
    });
    size = omega (arith, one.size, granules);
    log = subst (λ n. HasLog n new) (sym granules) one.log;
    wal = record {
      entry = λ line below some. absurd (some (closed line below));
      one = λ line other below under some another. absurd (some (closed line below));
    };
    slabs = λ start is. ⊎_elim
        (λ (here : start ≡ 4). subst (HasSlabHeader new) (sym here) (record { state = omega (arith, one.state); index = λ place below. absurd (omega (arith, below, no_entries)) }))
        (λ (differ : start ≢ 4). absurd (false≢true (sym (slab_other start differ) ∙ is)))
        (cases_eq start 4);
  }

  -- its bitmap is clear
  no_bit : (i : ℕ) → bit_at new 4 i ≡ false
  no_bit i = ⊎_elim
      (λ (below : i < 4096). last_fails (is_slab new 4) (ltb i 4096) (slab_bit new 4 i) (ap (λ w. bit_of_word w (i / 8 % 64)) (one.clear i below) ∙ bit_of_word-zero (i / 8 % 64)))
      (λ (high : 4096 ≤ i). middle_fails (is_slab new 4) (ltb i 4096) (slab_bit new 4 i) (le-ltb i 4096 high))
      (cases_lt i 4096)

  -- the numbers of version 1
  row : layout_of (version_in words) ≡ first_layout
  row = formatted_row one.formatted

  heap : (layout_of (version_in words)).first_granule ≡ 4
  heap = ap (λ (r : Layout). r.first_granule) row

  -- the tables have one slab more
  low_root : (root : ℕ) → root < (layout_of (version_in words)).roots → root_word root < 6144
  low_root root below = omega (arith, below, ap (λ (r : Layout). r.roots) row)

  words_same : root_in new ≡ root_in words
  words_same k r = roots-same words new version (λ root below. one.low (root_word root) (low_root root below)) r k

  entry_same : open_entry_in new ≡ open_entry_in words
  entry_same = entry_among-same (λ line. word_at words (wal_word line)) (λ line. word_at new (wal_word line)) wal_lines (λ line below. one.low (wal_word line) (omega (arith, wal_word-low line below)))

  with_slab : IsWithSlab (tables_of words) (tables_of new) 4 6
  unfolding tables_of
  with_slab = record {
    more = record {
      word = words_same;
      root = λ k. held_of (entry_same k) (words_same k);
      entry = entry_same;
      large = λ k start. (no_large start ∙ sym (blank.no_large start)) k;
      none = blank.no_slab 4;
      slab = slab_here;
      others = λ other differ.
          let gone : is_slab words other ≡ false = blank.no_slab other in
          let same : is_slab new other ≡ is_slab words other = slab_other other differ ∙ sym gone in
          record {
            slab = same;
            header = slab_header-same words new other same
                (λ is. absurd (false≢true (sym gone ∙ is)))
                (λ i is below. absurd (false≢true (sym gone ∙ is)))
                (λ place is below. absurd (false≢true (sym gone ∙ is)));
          };
    };
    fresh = record {
      kind = field 0 1 (omega arith);
      class_is = field 8 6 (omega arith);
      old = field 16 0 (omega arith);
      index_count = no_entries;
      clear = λ i below. no_bit i;
    };
  }

  -- on vacant granules
  place : IsSlabPlace (bounds_of words) (tables_of words) (tables_of new) 4
  place = IsSlabPlace-vacant exact.sound blank.closed (omega (arith, heap)) with_slab (λ k from to. record {
    low = omega (arith, from, heap);
    high = omega (arith, to, was);
    none = λ start covers. omega (arith, covers.low, covers.high, granules_at-large (tables_of words) start (blank.no_slab start), blank.no_large start);
  })

  -- the image is exact, but for that slab
  image : IsExactButImage new 4
  image = record { formed = formed; but = subst (λ b. IsExactBut b (tables_of new) 4) (sym bounds) (IsExactBut-slab place with_slab.fresh (omega arith) exact) }

  -- its block 9
  six_small : 9 < class_capacity 6
  unfolding class_size sizes
  six_small = omega arith

  six_at : 68592 ≡ (slab_block 4 6 9).at
  unfolding class_size sizes
  six_at = refl

  block_in : IsBlockIn new 5 block
  block_in = record {
    image = image;
    rooted = omega (arith, ap (λ v. (layout_of v).roots) version, ap (λ (r : Layout). r.roots) row);
    slab = with_slab.more.slab;
    lively = λ done. omega (arith, done.kind, with_slab.fresh.kind);
    below = subst (λ c. 9 < class_capacity c) (sym with_slab.fresh.class_is) six_small;
    at = six_at ∙ ap (λ c. (slab_block 4 c 9).at) (sym with_slab.fresh.class_is);
  }

  -- block 9 may come to root 5
  attachable : IsAttachable new 5 block
  unfolding tables_of
  attachable = record {
    block_in = block_in;
    unused = record { each = λ range holds. absurd (holds_none-fresh (tables_of new) with_slab.fresh range holds) };
    none = ap (λ (row : ℕ → ℕ). row 5) with_slab.more.root ∙ blank.roots 5;
  }

-- after the log has the slab, and a call began
pub attachable_by : {words made new begun : List ℕ} {k granules : ℕ} → IsFormatted words header → IsMade words made 4 6 → IsInLog (version_in made) k → new ≡ put_word made k (word_of_entry (Slab 4)) →
    ((start : ℕ) → extent_at new start ≡ with_entry (extent_at made) (Slab 4) start) → HasLog granules new → granules ≡ 16 → begun ≡ new → IsAttachable begun 5 block
attachable_by {words} {made} {new} formatted slab place is extents log size same =
    subst (λ (ws : List ℕ). IsAttachable ws 5 block) (sym same) (attachable words new (one_slab_by formatted slab place is extents log size))

-- and then go from it
pub detachable : (words new : List ℕ) (line : ℕ) → IsAttachable words 5 block → IsAttached words line 5 block new → IsDetachable new 5 block
detachable words new line before after =
    let was = before.block_in in
    let class : ((tables_of new).header 4).class ≡ ((tables_of words).header 4).class = ap (λ (t : Tables). (t.header 4).class) after.tables in
    record {
      block_in = record {
        image = record { formed = after.exact.formed; but = IsExactBut-exact after.exact.exact 4 };
        rooted = omega (arith, was.rooted, ap (λ (b : Bounds). b.roots) after.bounds);
        slab = ap (λ (t : Tables). t.slab 4) after.tables ∙ was.slab;
        lively = after.exact.exact.none_done 4;
        below = subst (λ c. 9 < class_capacity c) (sym class) was.below;
        at = was.at ∙ ap (λ c. (slab_block 4 c 9).at) (sym class);
      };
      set = ap (λ (t : Tables). (t.header 4).bit 9) after.tables;
      named = ap (λ (t : Tables). t.root 5) after.tables;
    }
