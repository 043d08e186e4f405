-- The form of an image, and what its tables say, after stores to the log, by which an extent comes or goes; and after a store to a
-- vacant granule, where a slab is about to begin.
use Rattle.std.proofs.Common.{◌≡◌, ◌≢◌, ℕ, ◌+◌, ◌*◌, ◌/◌, ◌%◌, ◌^◌, ◌<◌, ◌≤◌, true, false, cond, List, length, Option, Some, None, refl, sym, ap, subst, ◌∙◌, arith, inr, ⊎_elim}
use Rattle.std.proofs.lemmas.Bool.{cases_eq, cond-true}
use Rattle.pmem_lines.specs.Words.{word_at, put_word}
use Rattle.pmem_lines.proofs.Words.{word_at-put_other}
use Rattle.pool_layout.specs.Places.{fields_word, directory_word, heap_word}
use Rattle.pool_layout.specs.Layout.{layout_of}
use Rattle.pool_layout.specs.Header.{header_word, fields_of, version_in, granules_in, granules_field, IsGcPoolHeader}
use Rattle.pool_layout.proofs.Layouts.{layout_rules}
use Rattle.image_tables.specs.declared.extent.Extent.{Extent}
use Rattle.image_tables.specs.Extents.{extent_at}
use Rattle.image_tables.specs.Forms.{normal_kind}
use Rattle.image_tables.specs.Tables.{Tables, is_slab, is_slab_of, large_of, AreSlabsInHeap, root_in, state_word, tables_of}
use Rattle.image_tables.specs.Updates.{put_at}
use Rattle.image_tables.proofs.Updates.{put_at-same, put_at-other}
use Rattle.image_tables.proofs.Logs.{IsOffLog, SameLog}
use Rattle.image_tables.proofs.Places.{log_start-low}
use Rattle.image_tables.proofs.Headers.{IsSameOffHeader, IsSameOffHeader-put, SameLog-off_header, tables_no_slab}
use Rattle.image_tables.proofs.Stores.{IsSameOffLog, tables_off_log-same, text-off_log, fields-off_log, version_in-off_log, root_word-off_log, heap_word-off_log, roots-same, state_word-high, state_field-same, log_start-high}
use Rattle.book_log.specs.Book.{HasLog, chunks_of}
use Rattle.book_log.specs.Live.{AreLive, AreDisjoint, granules_of}
use Rattle.book_log.proofs.LiveExtents.{live_extents}
use Rattle.size_classes.specs.Classes.{class_size}
use Rattle.heap_model.specs.Machine.{Bounds, Range, slab_block}
use Rattle.heap_model.proofs.Slabbing.{LiesIn-block}
use Rattle.heap_check.specs.Image.{bounds_of}
use Rattle.heap_check.specs.Sound.{granules_at, Covers}
use Rattle.heap_check.specs.State.{IsWordOf}
use Rattle.heap_check.proofs.Forms.{bounds_of-off_log, bounds_of-put_word}
use Rattle.heap_check.proofs.Geometry.{size_is, Covers-slab, is_large-parts}
use Rattle.gc_check.specs.Heap.{address_field, gc_tables, gc_heap}
use Rattle.gc_check.specs.Sound.{IsClassBlock, IsGcSound}
use Rattle.gc_check.specs.Image.{IsNormalWord, IsGcFormed}
use Rattle.gc_check.proofs.Tables.{over}
use Rattle.gc_check.proofs.Heaps.{size_large, size_small, IsNamed-heap}
use Rattle.gc_check.proofs.RootWords.{whole}
use Rattle.gc_check.proofs.Forms.{fields_same, IsGcFormed-put}
use Rattle.gc_check.proofs.Extents.{HasExtentAt}

-- the log

-- how many granules an arena of this variant has, and where its heap begins
pub record HasGcLog (words : List ℕ) : Type 0 where
  pub first : 4 ≤ (layout_of (version_in words)).first_granule
  pub few : granules_in words ≤ 4096
  pub most : granules_in words ≤ (layout_of (version_in words)).most_granules
  pub inside : heap_word (version_in words) ≤ length words

pub gc_log : (words : List ℕ) → IsGcFormed words → HasGcLog words
gc_log words formed =
    let rules = layout_rules (version_in words) in
    let valid = formed.header.valid.valid in
    record {
      first = rules.first;
      few = omega (arith, rules.most, valid.greatest);
      most = valid.greatest;
      inside = omega (arith, formed.size, rules.some_granule, valid.least);
    }

-- what is live lies in the arena
live_of : (words : List ℕ) → IsGcFormed words → AreLive (layout_of (version_in words)).first_granule (granules_in words) (extent_at words)
live_of words formed = live_extents (granules_in words) words (chunks_of words) (omega (arith, (gc_log words formed).few)) formed.log

-- the tables have as many granules at a granule as the words
granules_in_tables : (words : List ℕ) (start : ℕ) → granules_at (gc_tables words) start ≡ granules_at (tables_of words) start
granules_in_tables words start = let is = over words in ap (λ (f : _). cond (f start) 4 ((gc_tables words).large start)) is.slab ∙ ap (λ (f : ℕ → ℕ). cond ((tables_of words).slab start) 4 (f start)) is.large

size_in : (words : List ℕ) (start : ℕ) (here : Extent) → extent_at words start ≡ Some here → granules_at (gc_tables words) start ≡ granules_of here
size_in words start here is = granules_in_tables words start ∙ size_is words start here is

-- no two live extents of a sound image share a granule
pub gc_disjoint : (words : List ℕ) → IsGcFormed words → IsGcSound (bounds_of words) (gc_tables words) → AreDisjoint (extent_at words)
gc_disjoint words formed sound = record {
  each = λ start later x other less first second.
      let some = ((live_of words formed).each later other second).some in
      let one = size_in words start x first in
      let two = size_in words later other second in
      let same : later < start + granules_of x → start ≡ later =
      λ meets. sound.extents.disjoint start later later (record { low = omega (arith, less); high = omega (arith, meets, one) }) (record { low = omega arith; high = omega (arith, some, two) }) in
      grind arith;
}

-- Words that differ in the log and the directory alone: another extent, or none, starts at one granule, and the log is well formed.
pub record IsRelogged (words : List ℕ) (start : ℕ) (extent : Option Extent) (image : List ℕ) : Type 0 where
  pub off_log : IsSameOffLog words image
  pub log : HasLog (granules_in words) image
  pub here : extent_at image start ≡ extent
  pub others : (other : ℕ) → other ≢ start → extent_at image other ≡ extent_at words other

module _ {words image : List ℕ} {start : ℕ} {extent : Option Extent} (slabs : AreSlabsInHeap words) (relogged : IsRelogged words start extent image) where
  abbrev off : IsSameOffLog words image
  off = relogged.off_log

  state_same : (other : ℕ) → is_slab words other ≡ true → word_at image (state_word other) ≡ word_at words (state_word other)
  state_same other is = heap_word-off_log words image (state_word other) off (state_word-high words other slabs is)

  roots_same : (root : ℕ) → root_in image root ≡ root_in words root
  roots_same = roots-same words image (version_in-off_log words image off) (λ root below. root_word-off_log words image root off below)

  -- of a table by extents one entry is another
  entry_at : {X : Type 0} (f : Option Extent → X) (other : ℕ) → f (extent_at image other) ≡ put_at (λ s. f (extent_at words s)) start (f extent) other
  entry_at {X} f other = ⊎_elim
      (λ (same : other ≡ start).
      ap (λ s. f (extent_at image s)) same ∙ ap f relogged.here
      ∙ sym (ap (put_at (λ s. f (extent_at words s)) start (f extent)) same ∙ put_at-same (λ s. f (extent_at words s)) start (f extent)))
      (λ (differ : other ≢ start). ap f (relogged.others other differ) ∙ sym (put_at-other (λ s. f (extent_at words s)) start other (f extent) differ))
      (cases_eq other start)

  pub HasExtentAt-relogged : HasExtentAt (gc_tables words) (gc_tables image) start (large_of extent) (is_slab_of extent)
  unfolding gc_tables tables_of
  HasExtentAt-relogged = record {
    word = λ k root. roots_same root k;
    root = λ k root. address_field (roots_same root k);
    large_is = λ k other. entry_at large_of other k;
    slab_is = λ k other. entry_at is_slab_of other k;
    class = λ other differ is. state_field-same words image other 8 (ap is_slab_of (relogged.others other differ)) (state_same other);
  }

  pub bounds_relogged : bounds_of image ≡ bounds_of words
  bounds_relogged = bounds_of-off_log words image off

  -- a slab that starts there has its state word
  pub IsGcFormed-relogged : IsGcFormed words → (is_slab_of extent ≡ true → IsNormalWord (word_at image (state_word start))) → IsGcFormed image
  IsGcFormed-relogged formed normal =
      let fields = fields-off_log words image off in
      record {
        header = record {
          whole = omega (arith, off.same_length, formed.header.whole);
          text = text-off_log words image off ∙ formed.header.text;
          word = fields ∙ formed.header.word ∙ sym (ap (λ w. header_word (fields_of w)) fields);
          valid = subst (λ w. IsGcPoolHeader (fields_of w)) (sym fields) formed.header.valid;
        };
        size = off.same_length ∙ formed.size ∙ sym (ap (λ w. 2048 * granules_field w) fields);
        log = subst (λ granules. HasLog granules image) (sym (ap granules_field fields)) relogged.log;
        slabs = λ other is. ⊎_elim
            (λ (same : other ≡ start).
            subst (λ s. IsNormalWord (word_at image (state_word s))) (sym same) (normal (sym (ap is_slab_of relogged.here) ∙ ap (is_slab image) (sym same) ∙ is)))
            (λ (differ : other ≢ start).
            let was = sym (ap is_slab_of (relogged.others other differ)) ∙ is in
            subst IsNormalWord (sym (state_same other was)) (formed.slabs other was))
            (cases_eq other start);
      }

-- where the extents are the same too, so are the tables
module _ {words image : List ℕ} (slabs : AreSlabsInHeap words) (off : IsSameOffLog words image) (same : (start : ℕ) → extent_at image start ≡ extent_at words start) where
  pub tables_relogged_same : gc_tables image ≡ gc_tables words
  unfolding gc_tables
  tables_relogged_same = ap (λ (t : Tables). record t { root = λ root. address_field (t.word root); open_entry = None }) (tables_off_log-same words image off slabs same)

  pub formed_relogged_same : HasLog (granules_in words) image → IsGcFormed words → IsGcFormed image
  formed_relogged_same log formed =
      IsGcFormed-relogged {start = 0} slabs (record { off_log = off; log = log; here = same 0; others = λ other differ. same other }) formed
      (λ is. subst IsNormalWord (sym (heap_word-off_log words image (state_word 0) off (state_word-high words 0 slabs is))) (formed.slabs 0 is))

-- the class of a slab that is there, by its state word
pub class_by : (words : List ℕ) (start class : ℕ) → class < 36 → is_slab words start ≡ true → word_at words (state_word start) ≡ normal_kind + 2 ^ 8 * class → ((gc_tables words).header start).class ≡ class
unfolding gc_tables tables_of
class_by words start class few slab is =
    cond-true (is_slab words start) (word_at words (state_word start) / 2 ^ 8 % 2 ^ 8) 0 slab ∙ omega (arith, is, few)

-- a word of a block

-- where a block of a slab lies
block_lies : {b : Bounds} {t : Tables} {class at : ℕ} (sound : IsGcSound b t) → (block : IsClassBlock t.slab class at) → (16384 * block.start ≤ at) × (at + class_size class ≤ 16384 * block.start + 65536)
block_lies {b} {t} {class} {at} sound block =
    let lies = LiesIn-block block.start class (slab_block block.start class block.number) (record { number = block.number; within = block.below; is = refl }) in
    (omega (arith, lies.low, block.is), omega (arith, lies.high, block.is))

-- a word of a block lies in a granule of its extent
pub block_covers : {b : Bounds} {t : Tables} → IsGcSound b t → (root k : ℕ) (range : Range) → gc_heap t root ≡ Some range → IsWordOf range k → (own : ℕ) × Covers t own (k / 2048)
block_covers {b} {t} sound root k range block word =
    let is = IsNamed-heap t root range block in
    let named = t.word root in
    let standing = sound.owned.rooted root is.some in
    let at = ap (λ (r : Range). r.at) is.is in
    let size = ap (λ (r : Range). r.size) is.is in
    let own = address_field named / 16384 in
    ⊎_elim
    (λ large.
    let parts = is_large-parts t.large (address_field named) large.1 in
    let wide = size_large t.large named large.0 in
    let granules = whole sound own parts.1 in
    (own, record { low = omega (arith, word.low, at, parts.0); high = omega (arith, word.high, at, size, wide, parts.0, granules) }))
    (λ small.
    let block = small.1 in
    let wide = size_small t.large named small.0 in
    let lies = block_lies sound block in
    (block.start, Covers-slab t block.start (k / 2048) block.slab (omega (arith, word.low, at, lies.0)) (omega (arith, word.high, at, size, wide, lies.1))))
    standing.stands

-- a vacant granule

-- a store to the first word of a granule of the heap at which no slab begins
module _ (words : List ℕ) (start value : ℕ) (formed : IsGcFormed words) (high : (layout_of (version_in words)).first_granule ≤ start) (none : is_slab words start ≡ false) where
  abbrev put : List ℕ
  put = put_word words (state_word start) value

  IsOffLog-granule : IsOffLog words (state_word start)
  IsOffLog-granule =
      let low = log_start-low (version_in words) in
      let behind = log_start-high (version_in words) in
      record { fields = λ e. omega (arith, e, high, low, behind); directory = λ e. omega (arith, e, high, low, behind); place = inr (omega (arith, high)) }

  same_header : IsSameOffHeader words put start
  same_header = IsSameOffHeader-put words start (state_word start) value high (omega arith) (omega arith)

  pub tables_put_granule : gc_tables put ≡ gc_tables words
  unfolding gc_tables
  tables_put_granule = ap (λ (t : Tables). record t { root = λ root. address_field (t.word root); open_entry = None }) (tables_no_slab words put start same_header none)

  pub bounds_put_granule : bounds_of put ≡ bounds_of words
  bounds_put_granule = bounds_of-put_word words (state_word start) value (λ e. IsOffLog-granule.fields (sym e))

  pub formed_put_granule : IsGcFormed put
  formed_put_granule = IsGcFormed-put words (state_word start) value IsOffLog-granule
      (λ e. omega (arith, e, high, log_start-low (version_in words), log_start-high (version_in words))) formed
      (λ other is. subst IsNormalWord (sym (word_at-put_other words (state_word start) (state_word other) value (λ e. let same : other ≡ start = omega (arith, e) in let there = ap (is_slab words) (sym same) ∙ is in cc))) (formed.slabs other is))

  pub log_put_granule : SameLog words put
  log_put_granule = SameLog-off_header words put start same_header

  pub fields_put_granule : word_at put fields_word ≡ word_at words fields_word
  fields_put_granule = fields_same words (state_word start) value IsOffLog-granule

  pub directory_put_granule : word_at put directory_word ≡ word_at words directory_word
  directory_put_granule = word_at-put_other words (state_word start) directory_word value (λ e. IsOffLog-granule.directory (sym e))
