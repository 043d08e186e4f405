-- A block of its slab's class comes or goes: what the whole sequence leaves, and a crash within it.
use Rattle.std.proofs.Common.{◌≡◌, ◌*◌, ℕ, ◌<◌, Bool, true, false, List, refl, sym, ap, ◌∙◌, arith, inl, inr, Some, None}
use Rattle.attach_steps.proofs.Common.{reading, PmemState, IsQuietStep, word_events, IsOldOrNewPair, root_word, wal_word, Tables, tables_of, put_in, put_in-twice, put_in-own, PutsBitOver, entry_word, Opens, OpensOrNot, Closes, ClosesOrNot, IsDoneSlab, bounds_of, IsEitherHeap, sizes_of, entry_for, bit_word, bit_put, class_size, IsWalWord-entry}
use Rattle.heap_model.specs.Machine.{slab_block}
use Rattle.heap_check.proofs.Forms.{IsFormed-put_bitmap}
use Rattle.heap_check.proofs.Geometry.{number_few}
use Rattle.heap_check.proofs.Small.{IsSmallPlace, IsOneBlock-small}
use Rattle.heap_check.proofs.SmallPlaces.{clear_unused, none_morphing_but, IsSmallPlace-unused, IsSmallPlace-named}
use Rattle.attach_steps.specs.declared.block.SmallBlock.{SmallBlock}
use Rattle.attach_steps.specs.Steps.{mark_events, unmark_events, attach_events, detach_events, IsBlockIn, IsAttachable, IsDetachable, IsAttached, IsDetached}
use Rattle.attach_steps.proofs.Sequences.{opened_word, PutsOver, with_none, with_both, heap_none, heap_some, Leads, comes, goes, marks, unmarks, ends, exact_but, exact_end, gives_end, sequence_step}
use Rattle.attach_steps.proofs.Stages.{BlockSite, tables_with, IsBlockSite, IsStageOf, stage_begin, stage_header, made_slab, made_low, few_entries}
use Rattle.image_tables.specs.Tables.{bit_rows, live_rows, number_rows}
use Rattle.image_tables.specs.Updates.{put_bit, with_rows, with_root}

-- its place: the word with its bit, and the entry of its root
abbrev pub class_site : Tables → ℕ → SmallBlock → BlockSite
class_site t root block = record {
  start = block.start;
  k = bit_word block;
  bits = λ on. put_in (bit_rows t) block.start block.number on;
  lives = λ on. live_rows t;
  own = entry_for root block;
  block = record { at = block.at; size = class_size (t.header block.start).class };
}

module _ (words : List ℕ) (root : ℕ) (block : SmallBlock) (block_in : IsBlockIn words root block) where
  abbrev t : Tables
  t = tables_of words

  pub number_low : block.number < 4096
  number_low = number_few (t.header block.start).class block.number (block_in.image.but.sound.slabs block.start block_in.slab).state.is_class block_in.below

  pub first_some : 0 < (bounds_of words).first
  first_some = omega (arith, (sizes_of words block_in.image.formed).first)

  pub class_block : Some (record { at = block.at; size = class_size (t.header block.start).class }) ≡ Some (slab_block block.start (t.header block.start).class block.number)
  class_block = ap (λ a. Some (record { at = a; size = class_size (t.header block.start).class })) block_in.at

  pub IsSite-class : IsSmallPlace (bounds_of words) (tables_of words) root block.start block.number → IsBlockSite words root (class_site (tables_of words) root block)
  IsSite-class place =
      let sizes = sizes_of words block_in.image.formed in
      record {
        formed = block_in.image.formed;
        one = rw block_in.at (IsOneBlock-small place);
        rooted = block_in.rooted;
        low = omega arith;
        high = omega (arith, number_low);
        valid = IsWalWord-entry (entry_for root block) (omega (arith, sizes.roots, block_in.rooted), omega arith, λ new. refl);
        plain = tt;
      }

  module _ (line : ℕ) (line_below : line < 8) (is : IsBlockSite words root (class_site (tables_of words) root block)) where
    -- the bit is put over any words of a stage
    pub puts_over : (made : List ℕ) (on : Bool) → PutsBitOver made block.start block.number on → PutsOver is line_below made (bit_put made block on) on
    puts_over made new_on over = record {
      each = λ on word image size same stage.
          let value = bit_put made block new_on in
          let puts = over.each image size same in
          stage_header is line_below stage new_on value
          (IsFormed-put_bitmap image block.start block.number value stage.formed (made_low is line_below stage) number_low (few_entries is line_below stage))
          (puts.tables stage.slabs (made_slab is line_below stage)
          ∙ ap (λ (x : Tables). put_bit x block.start block.number new_on) stage.tables
          ∙ (λ i. record (with_root (with_rows (tables_of words) (put_in-twice (bit_rows (tables_of words)) block.start block.number on new_on i) (live_rows (tables_of words)) (number_rows (tables_of words))) root word) { open_entry = Some (class_site (tables_of words) root block).own }));
    }

module _ {words : List ℕ} {line root : ℕ} {block : SmallBlock} (block_in : IsBlockIn words root block) (line_below : line < 8) (is : IsBlockSite words root (class_site (tables_of words) root block)) where
  abbrev site : BlockSite
  site = class_site (tables_of words) root block

  -- at the begin
  class_begins : (on : Bool) (word : ℕ) → ((tables_of words).header block.start).bit block.number ≡ on → (tables_of words).root root ≡ word → IsStageOf words line root site on word None words
  class_begins on word bit named =
      stage_begin is line_below on word (ap (put_in (bit_rows (tables_of words)) block.start block.number) (sym bit) ∙ put_in-own (bit_rows (tables_of words)) block.start block.number) refl named

  -- the slab has no transition to end
  lively : (on : Bool) (word : ℕ) → ¬ (IsDoneSlab (tables_with words root site on word None) block.start)
  lively on word done = block_in.lively (record { slab = done.slab; kind = done.kind; none = done.none })

-- a block comes to its root
module _ {words : List ℕ} {line root : ℕ} {block : SmallBlock} (may : IsAttachable words root block) (line_below : line < 8) where
  pub coming : IsBlockSite words root (class_site (tables_of words) root block)
  coming =
      let in_slab = may.block_in in
      IsSite-class words root block in_slab (IsSmallPlace-unused root block.start block.number in_slab.image.but (first_some words root block in_slab) in_slab.rooted in_slab.slab in_slab.below may.unused may.none)

  coming_begins : IsStageOf words line root (class_site (tables_of words) root block) false 0 None words
  coming_begins =
      let but = may.block_in.image.but in
      class_begins may.block_in line_below coming false 0 (clear_unused but.sound but.closed block.start block.number may.block_in.slab may.block_in.below (none_morphing_but but block.start may.block_in.slab) may.unused) may.none

  module _ {made left new : List ℕ} (opens : Opens words line (entry_for root block) made) (over : PutsBitOver made block.start block.number true) (left_is : left ≡ reading made (mark_events made root block))
      (closes : Closes left line new) where
    marked : Leads coming line_below made left (8 * bit_word block) (bit_put made block true) (8 * root_word root) block.at false true 0 block.at
    marked = marks coming line_below made left (bit_put made block true) (puts_over words root block may.block_in line line_below coming made true over) left_is

    pub attached : IsAttached words line root block new
    attached =
        let both = with_both coming line_below in
        let closed = ends coming line_below (comes coming line_below) coming_begins opens marked closes in
        record {
          exact = exact_end coming line_below both closed (lively may.block_in line_below coming true block.at) (inl refl);
          bounds = closed.bounds;
          tables = closed.tables;
          gives = gives_end coming line_below both closed _ (heap_some coming line_below both closed refl ∙ class_block words root block may.block_in);
          rest = closed.rest;
        }

    pub attach_step : {s t u v : PmemState} → IsQuietStep s t (word_events (8 * wal_word line) (entry_word (entry_for root block))) (OpensOrNot words line (entry_for root block)) →
        IsQuietStep t u (mark_events made root block) (IsOldOrNewPair made (8 * bit_word block) (bit_put made block true) (8 * root_word root) block.at) →
        IsQuietStep u v (word_events (8 * wal_word line) 0) (ClosesOrNot left line) → IsQuietStep s v (attach_events words line root block) (IsEitherHeap words new)
    attach_step {s} {t} {u} {v} opening putting closing =
        let step = sequence_step coming line_below (comes coming line_below) coming_begins opens marked closes opening putting closing in
        let same = opened_word coming line_below made opens in
        grind arith

-- it goes from its root
module _ {words : List ℕ} {line root : ℕ} {block : SmallBlock} (may : IsDetachable words root block) (line_below : line < 8) where
  pub going : IsBlockSite words root (class_site (tables_of words) root block)
  going =
      let in_slab = may.block_in in
      IsSite-class words root block in_slab (IsSmallPlace-named root block.start block.number in_slab.image.but (first_some words root block in_slab) in_slab.rooted in_slab.slab in_slab.below may.set (may.named ∙ in_slab.at))

  module _ {made left new : List ℕ} (opens : Opens words line (entry_for root block) made) (over : PutsBitOver made block.start block.number false) (left_is : left ≡ reading made (unmark_events made root block))
      (closes : Closes left line new) where
    unmarked : Leads going line_below made left (8 * root_word root) 0 (8 * bit_word block) (bit_put made block false) true false block.at 0
    unmarked = unmarks going line_below made left (bit_put made block false) (puts_over words root block may.block_in line line_below going made false over) left_is

    pub detached : IsDetached words line root block new
    detached =
        let none = with_none going line_below in
        let closed = ends going line_below (goes going line_below) (class_begins may.block_in line_below going true block.at may.set may.named) opens unmarked closes in
        record {
          image = exact_but going line_below none closed;
          exact = λ other. exact_end going line_below none closed (lively may.block_in line_below going false 0) (inr other);
          bounds = closed.bounds;
          tables = closed.tables;
          gives = gives_end going line_below none closed None (heap_none going line_below none closed refl);
          rest = closed.rest;
        }

    pub detach_step : {s t u v : PmemState} → IsQuietStep s t (word_events (8 * wal_word line) (entry_word (entry_for root block))) (OpensOrNot words line (entry_for root block)) →
        IsQuietStep t u (unmark_events made root block) (IsOldOrNewPair made (8 * root_word root) 0 (8 * bit_word block) (bit_put made block false)) →
        IsQuietStep u v (word_events (8 * wal_word line) 0) (ClosesOrNot left line) → IsQuietStep s v (detach_events words line root block) (IsEitherHeap words new)
    detach_step {s} {t} {u} {v} opening putting closing =
        let step = sequence_step going line_below (goes going line_below) (class_begins may.block_in line_below going true block.at may.set may.named) opens unmarked closes opening putting closing in
        let same = opened_word going line_below made opens in
        grind arith
