-- A block of a slab comes or goes with its root's word: the image at each of the stores.
use Rattle.std.proofs.Common.{◌≡◌, ◌≢◌, ◌⊎◌, ℕ, ◌+◌, ◌*◌, ◌^◌, ◌<◌, ◌≤◌, Bool, true, List, length, refl, sym, ap, subst, ◌∙◌, arith, inl, inr, Option, Some, None}
use Rattle.attach_steps.proofs.Common.{put_word, word_at-put_other, length-put_word, root_word, wal_word, WalEntry, Tables, tables_of, HasNoMove, entry_word, Opens, Closes, Bounds, Range, bounds_of, index_count_few, sizes_of, IsOneBlock, slab_table}
use Rattle.pool_layout.specs.Layout.{layout_of}
use Rattle.pool_layout.specs.Header.{version_in}
use Rattle.image_tables.specs.Forms.{IsWalWord}
use Rattle.image_tables.specs.Tables.{AreSlabsInHeap, is_slab, is_slab_of, state_field, wal_lines, bit_rows, live_rows}
use Rattle.image_tables.specs.Updates.{with_open_entry}
use Rattle.image_tables.proofs.Updates.{put_at-twice, put_at-own}
use Rattle.image_tables.proofs.Extents.{extent_at-elsewhere}
use Rattle.image_tables.proofs.Headers.{IsSameOffHeader-put, is_slab-off_header}
use Rattle.image_tables.proofs.Stores.{few_lines, closed_words, HasNoMove-closed, held_of-plain, roots_plain, extent_at-put_root, wal_word-put_root, IsOffLog-wal, tables_put_root}
use Rattle.image_tables.proofs.Tables.{slab_fields}
use Rattle.attach_wal.specs.Wal.{HasNoOther}
use Rattle.heap_check.specs.Sound.{IsSound}
use Rattle.heap_check.specs.Image.{IsFormed}
use Rattle.heap_check.proofs.Forms.{AreSlabsInHeap-sound, bounds_of-put_word, IsFormed-put_root, IsFormed-put_wal}
use Rattle.heap_check.proofs.Geometry.{granules_at-slab}
use Rattle.heap_check.proofs.Sizes.{root_inside}
use Rattle.heap_check.proofs.OneBlock.{stage_of}
use Rattle.attach_steps.specs.Steps.{AreInside, KeepsAllButBlock}

-- What a sequence on a root and a block changes besides the root's word: a word of the header of the block's slab, by which
-- the slab holds the block or not, and the entry under which it does.
pub record BlockSite : Type 0 where
  pub start : ℕ
  pub k : ℕ
  pub bits : Bool → ℕ → ℕ → Bool
  pub lives : Bool → ℕ → ℕ → Bool
  pub own : WalEntry
  pub block : Range

-- the tables while the block is held or not, by the root's word and the open entry
abbrev pub tables_with : List ℕ → ℕ → BlockSite → Bool → ℕ → Option WalEntry → Tables
tables_with words root site on word entry = stage_of (tables_of words) site.bits site.lives root on word entry

-- the block may come or go
pub record IsBlockSite (words : List ℕ) (root : ℕ) (site : BlockSite) : Type 0 where
  pub formed : IsFormed words
  pub one : IsOneBlock (bounds_of words) (tables_of words) site.bits site.lives site.own root site.start site.block
  pub rooted : root < (bounds_of words).roots
  pub low : 2048 * site.start ≤ site.k
  pub high : site.k < 2048 * site.start + 256
  pub valid : IsWalWord (entry_word site.own)
  pub plain : HasNoMove (Some site.own)

-- the image is as the words are, but that the block is held or not, and that the root's word and the open entry are these
pub record IsStageOf (words : List ℕ) (line root : ℕ) (site : BlockSite) (on : Bool) (word : ℕ) (entry : Option WalEntry) (image : List ℕ) : Type 0 where
  pub formed : IsFormed image
  pub bounds : bounds_of image ≡ bounds_of words
  pub slabs : AreSlabsInHeap image
  pub alone : HasNoOther image line
  pub plain : HasNoMove entry
  pub tables : tables_of image ≡ tables_with words root site on word entry
  pub rest : KeepsAllButBlock words line root site.k image

-- what one store of a sequence is to
abbrev pub IsOneOf : ℕ → ℕ → BlockSite → ℕ → Type 0
IsOneOf line root site k = (k ≡ wal_word line) ⊎ ((k ≡ site.k) ⊎ (k ≡ root_word root))

module _ {words : List ℕ} {line root : ℕ} {site : BlockSite} (is : IsBlockSite words root site) (line_below : line < 8) where
  abbrev t : Tables
  t = tables_of words

  sound : IsSound (bounds_of words) t
  sound = is.one.but.sound

  slab : t.slab site.start ≡ true
  slab = is.one.lies.slab

  pub line_one : line < wal_lines
  line_one = omega (arith, few_lines, line_below)

  pub wal_inside : wal_word line < length words
  wal_inside = let sizes = sizes_of words is.formed in omega (arith, sizes.size, sizes.least, line_below)

  pub root_low : root < 2 ^ 16
  root_low = let sizes = sizes_of words is.formed in omega (arith, sizes.roots, is.rooted)

  -- the root's word lies below the heap
  pub root_before : 2048 + root < 2048 * (bounds_of words).first
  root_before = let sizes = sizes_of words is.formed in omega (arith, sizes.roots, is.rooted)

  -- the slab lies in the heap

  pub in_heap : (bounds_of words).first ≤ site.start
  in_heap = (AreSlabsInHeap-sound words sound).low site.start (sym (slab_table words site.start) ∙ slab)

  pub start_low : 4 ≤ site.start
  start_low = let sizes = sizes_of words is.formed in omega (arith, sizes.first, in_heap)

  pub start_high : site.start + 4 ≤ 4096
  start_high = grind (arith, sizes_of, granules_at-slab, slab, sound)

  pub header_inside : 2048 * site.start + 256 ≤ length words
  header_inside = grind arith

  pub inside : (made : List ℕ) → length made ≡ length words → AreInside made root site.start
  inside made size = grind (arith, sizes_of, start_high, header_inside, root_low, root_before, root_inside, in_heap)

  -- before, each root holds its word
  plain_roots : t.root ≡ t.word
  plain_roots = roots_plain words (HasNoMove-closed is.one.but.closed)

  -- the words as they are
  pub stage_begin : (on : Bool) (word : ℕ) → site.bits on ≡ (bit_rows t) → site.lives on ≡ (live_rows t) → t.root root ≡ word → IsStageOf words line root site on word None words
  stage_begin on word bits lives named = grind (arith, AreSlabsInHeap-sound, sound, closed_words, put_at-own, plain_roots)

  -- one store of the sequence
  pub stage_put : {on new_on : Bool} {word new_word : ℕ} {entry new_entry : Option WalEntry} {made : List ℕ} (k value : ℕ) → IsStageOf words line root site on word entry made → IsOneOf line root site k →
      IsFormed (put_word made k value) → ((other : ℕ) → is_slab (put_word made k value) other ≡ is_slab made other) → HasNoOther (put_word made k value) line → HasNoMove new_entry →
      tables_of (put_word made k value) ≡ tables_with words root site new_on new_word new_entry →
      IsStageOf words line root site new_on new_word new_entry (put_word made k value)
  stage_put {on} {new_on} {word} {new_word} {entry} {new_entry} {made} k value stage one well slab_is alone plain tables = grind (arith, bounds_of-put_word, length-put_word, word_at-put_other, start_low)

  module _ {on : Bool} {word : ℕ} {entry : Option WalEntry} {made : List ℕ} (stage : IsStageOf words line root site on word entry made) where
    -- a write-ahead word is stored
    wal_stage : (value : ℕ) (new_entry : Option WalEntry) → (value ≢ 0 → IsWalWord value) → HasNoMove new_entry → tables_of (put_word made (wal_word line) value) ≡ tables_with words root site on word new_entry →
        IsStageOf words line root site on word new_entry (put_word made (wal_word line) value)
    wal_stage value new_entry valid plain tables =
        stage_put (wal_word line) value stage (inl refl)
        (IsFormed-put_wal made line value stage.formed line_one stage.slabs stage.alone.closed valid (omega (arith, wal_inside, stage.rest.same_length)))
        (λ other. ap is_slab_of (extent_at-elsewhere made (wal_word line) value other (IsOffLog-wal made line line_one)))
        (record { closed = λ other below apart. word_at-put_other made (wal_word line) (wal_word other) value (λ e. apart (omega (arith, e))) ∙ stage.alone.closed other below apart })
        plain tables

    -- the open entry is another
    entry_stage : (new_entry : Option WalEntry) → HasNoMove new_entry → with_open_entry (tables_with words root site on word entry) new_entry ≡ tables_with words root site on word new_entry
    entry_stage new_entry plain = grind (arith, held_of-plain, plain_roots)

    -- the entry is open
    pub stage_open : (image : List ℕ) → entry ≡ None → Opens made line site.own image → IsStageOf words line root site on word (Some site.own) image
    stage_open image closed opens =
        let tables = opens.tables stage.slabs (ap (λ (x : Tables). x.open_entry) stage.tables ∙ closed) in
        rw opens.is (wal_stage (entry_word site.own) (Some site.own) (λ some. is.valid) is.plain (cc (opens.is, tables, stage.tables, entry_stage (Some site.own) is.plain)))

    -- the entry is closed
    pub stage_close : (image : List ℕ) → Closes made line image → IsStageOf words line root site on word None image
    stage_close image closes =
        rw closes.is (wal_stage 0 None (λ some. absurd (some refl)) tt (cc (closes.is, closes.tables stage.slabs stage.alone, stage.tables, entry_stage None tt)))

    pub made_slab : is_slab made site.start ≡ true
    made_slab = sym (slab_table made site.start) ∙ ap (λ (x : Tables). x.slab site.start) stage.tables ∙ slab

    pub made_low : (layout_of (version_in made)).first_granule ≤ site.start
    made_low = stage.slabs.low site.start made_slab

    -- no slab has more than 64 index entries
    pub few_entries : (other : ℕ) → is_slab made other ≡ true → state_field made other 24 ≤ 64
    few_entries other there =
        let here : t.slab other ≡ true = sym (ap (λ (x : Tables). x.slab other) stage.tables) ∙ slab_table made other ∙ there in
        let same : state_field made other 24 ≡ (t.header other).index_count = sym (slab_fields made other).index_count ∙ ap (λ (x : Tables). (x.header other).index_count) stage.tables in
        omega (arith, same, index_count_few (sound.slabs other here))

    -- the word of the header is stored, by which the block is held or not
    pub stage_header : (new_on : Bool) (value : ℕ) → IsFormed (put_word made site.k value) → tables_of (put_word made site.k value) ≡ tables_with words root site new_on word entry →
        IsStageOf words line root site new_on word entry (put_word made site.k value)
    stage_header new_on value well tables =
        stage_put site.k value stage (inr (inl refl)) well
        (λ other. is_slab-off_header made (put_word made site.k value) site.start other (IsSameOffHeader-put made site.start site.k value made_low is.low is.high))
        (record { closed = λ other below apart. word_at-put_other made site.k (wal_word other) value (λ e. omega (arith, e, start_low, is.low, few_lines, below)) ∙ stage.alone.closed other below apart })
        stage.plain tables

    -- the root's word is stored
    pub stage_root : (value : ℕ) → IsStageOf words line root site on value entry (put_word made (root_word root) value)
    stage_root value =
        let among : root < (layout_of (version_in made)).roots = subst (λ (b : Bounds). root < b.roots) (sym stage.bounds) is.rooted in
        let inside : root_word root < length made = root_inside made root stage.formed among in
        stage_put (root_word root) value stage (inr (inr refl))
        (IsFormed-put_root made root value stage.formed among inside stage.slabs)
        (λ other. ap is_slab_of (extent_at-put_root made root value other among))
        (record { closed = λ other below apart. wal_word-put_root made root value other below ∙ stage.alone.closed other below apart })
        stage.plain
        (grind (arith, tables_put_root, inside, put_at-twice))
