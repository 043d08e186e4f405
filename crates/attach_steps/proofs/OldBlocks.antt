-- An old block goes from its root: what the whole sequence leaves, and a crash within it.
use Rattle.std.proofs.Common.{◌≡◌, ◌*◌, ℕ, ◌<◌, true, false, List, length, refl, sym, ap, subst, ◌∙◌, arith, inr, Some, None}
use Rattle.attach_steps.proofs.Common.{reading, PmemState, IsQuietStep, word_events, IsOldOrNewPair, root_word, wal_word, WalEntry, Tables, index_word, tables_of, put_in, put_in-twice, put_in-own, PutsIndexOver, entry_word, Opens, OpensOrNot, Closes, ClosesOrNot, bounds_of, IsEitherHeap, index_count_few, sizes_of, class_size, IsWalWord-entry}
use Rattle.pmem_lines.proofs.Words.{word_at-put_same}
use Rattle.image_tables.specs.Forms.{IsIndexWord}
use Rattle.heap_check.proofs.IndexForms.{IsFormed-put_index}
use Rattle.heap_check.proofs.OldBlock.{IsOldPlace, IsOneBlock-old}
use Rattle.attach_steps.specs.declared.block.OldBlock.{OldBlock}
use Rattle.attach_steps.specs.Steps.{old_entry_for, dead_put, bury_events, detach_old_events, IsOldDetachable, IsOldDetached}
use Rattle.attach_steps.proofs.Stages.{BlockSite, IsBlockSite, IsStageOf, stage_begin, stage_header, made_slab, made_low, header_inside}
use Rattle.attach_steps.proofs.Sequences.{PutsOver, with_none, heap_none, Leads, goes, unmarks, ends, exact_but, exact_end, gives_end, sequence_step}
use Rattle.image_tables.specs.Tables.{bit_rows, live_rows, number_rows}
use Rattle.image_tables.specs.Updates.{put_index, with_rows, with_root}

-- its place: the word of its index entry, and the entry of its root
abbrev pub old_site : Tables → ℕ → OldBlock → BlockSite
old_site t root block = record {
  start = block.start;
  k = index_word block.start block.place;
  bits = λ on. bit_rows t;
  lives = λ on. put_in (live_rows t) block.start block.place on;
  own = old_entry_for root block.at block.place;
  block = record { at = block.at; size = class_size (t.header block.start).old };
}

module _ {words : List ℕ} {line root : ℕ} {block : OldBlock} (may : IsOldDetachable words root block) (line_below : line < 8) where
  abbrev t : Tables
  t = tables_of words

  abbrev own : WalEntry
  own = old_entry_for root block.at block.place

  abbrev site : BlockSite
  site = old_site (tables_of words) root block

  pub place_low : block.place < 64
  place_low = omega (arith, may.below, index_count_few (may.image.but.sound.slabs block.start may.slab))

  pub IsSite-old : IsBlockSite words root (old_site (tables_of words) root block)
  IsSite-old =
      let sizes = sizes_of words may.image.formed in
      let place : IsOldPlace (bounds_of words) t root block.start block.place = grind arith in
      record {
        formed = may.image.formed;
        one = rw may.at (IsOneBlock-old place);
        rooted = may.rooted;
        low = omega arith;
        high = omega (arith, place_low);
        valid = IsWalWord-entry own (omega (arith, sizes.roots, may.rooted), place_low, λ new. absurd (let never = new in cc));
        plain = tt;
      }

  -- the index entry is put over any words of a stage
  puts_over : (made : List ℕ) → length made ≡ length words → PutsIndexOver made block.start block.place (record { live = false; number = (t.header block.start).number block.place }) →
      PutsOver IsSite-old line_below made (dead_put t block.start block.place) false
  puts_over made long over = record {
    each = λ on word image size same stage.
        let value = dead_put t block.start block.place in
        let puts = over.each image size in
        let inside : index_word block.start block.place < length image = omega (arith, header_inside IsSite-old line_below, size, long, place_low) in
        let form : IsIndexWord value = subst IsIndexWord (word_at-put_same image (index_word block.start block.place) (index_word block.start block.place) value refl inside) puts.says.form in
        stage_header IsSite-old line_below stage false value
        (IsFormed-put_index image block.start block.place value stage.formed (made_low IsSite-old line_below stage) place_low inside form)
        (puts.tables stage.slabs (made_slab IsSite-old line_below stage)
        ∙ ap (λ (x : Tables). put_index x block.start block.place false ((t.header block.start).number block.place)) stage.tables
        ∙ (λ i. record (with_root (with_rows t (bit_rows t) (put_in-twice (live_rows t) block.start block.place on false i) (put_in-own (number_rows t) block.start block.place i)) root word) { open_entry = Some site.own }));
  }

  begins : IsStageOf words line root site true block.at None words
  begins = stage_begin IsSite-old line_below true block.at refl (ap (put_in (live_rows t) block.start block.place) (sym may.live) ∙ put_in-own (live_rows t) block.start block.place) may.named

  module _ {made left new : List ℕ} (opens : Opens words line (old_entry_for root block.at block.place) made) (long : length made ≡ length words)
      (over : PutsIndexOver made block.start block.place (record { live = false; number = ((tables_of words).header block.start).number block.place }))
      (left_is : left ≡ reading made (bury_events (tables_of words) root block.start block.place)) (closes : Closes left line new) where
    leads : Leads IsSite-old line_below made left (8 * root_word root) 0 (8 * index_word block.start block.place) (dead_put t block.start block.place) true false block.at 0
    leads = unmarks IsSite-old line_below made left (dead_put t block.start block.place) (puts_over made long over) left_is

    pub detached_old : IsOldDetached words line root block new
    detached_old =
        let none = with_none IsSite-old line_below in
        let closed = ends IsSite-old line_below (goes IsSite-old line_below) begins opens leads closes in
        record {
          image = exact_but IsSite-old line_below none closed;
          exact = λ other lively. exact_end IsSite-old line_below none closed (λ done. lively (rw closed.tables done)) (inr other);
          bounds = closed.bounds;
          tables = closed.tables;
          gives = gives_end IsSite-old line_below none closed None (heap_none IsSite-old line_below none closed refl);
          rest = closed.rest;
        }

    pub detach_old_step : {s t u v : PmemState} → IsQuietStep s t (word_events (8 * wal_word line) (entry_word (old_entry_for root block.at block.place))) (OpensOrNot words line (old_entry_for root block.at block.place)) →
        IsQuietStep t u (bury_events (tables_of words) root block.start block.place) (IsOldOrNewPair made (8 * root_word root) 0 (8 * index_word block.start block.place) (dead_put (tables_of words) block.start block.place)) →
        IsQuietStep u v (word_events (8 * wal_word line) 0) (ClosesOrNot left line) → IsQuietStep s v (detach_old_events (tables_of words) line root block.at block.start block.place) (IsEitherHeap words new)
    detach_old_step = sequence_step IsSite-old line_below (goes IsSite-old line_below) begins opens leads closes
