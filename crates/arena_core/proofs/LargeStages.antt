-- A large extent and its root come and go: what a change of the log leads to, and what a call has done.
use Rattle.std.proofs.Common.{◌<◌, ◌≡◌, ℕ, ◌*◌, false, List, sym, ap, ◌∙◌, arith, Some, None}
use Rattle.arena_core.proofs.Common.{word_at, fields_word, Tables, large_of, is_slab_of, is_slab, tables_of, put_at, put_at-same, put_at-own, large_table, slab_table, start_of, extent_of, heap, slabs, bounds_of, IsExactImage, IsLargePlace, GivesRoot, AreSlabsInHeap-sound, IsExtentGone, Bounds, IsTakable, is_large-start, extent_at, LogEntry, IsStageOf, keeps_stage}
use Rattle.image_tables.specs.Updates.{with_root}
use Rattle.image_tables.proofs.Updates.{put_at-twice}
use Rattle.image_tables.proofs.Stores.{version_in-off_log, heap_word-off_log, tables_off_log}
use Rattle.heap_check.proofs.Forms.{bounds_of-off_log, IsFormed-off_log}
use Rattle.heap_check.proofs.Large.{large_block}
use Rattle.log_steps.specs.Log.{KeepsRest, HasSameExtents, HasExtentsWith}
use Rattle.log_steps.proofs.Entries.{off_log}
use Rattle.log_steps.proofs.LargeEntries.{slab_entry, large_entry}
use Rattle.heap_check.proofs.LargeImages.{same_heap_word, some_stage, none_stage, others_stage, slabs_stage}

-- the log is changed, and so is what starts at the start
stage_log : (words : List ℕ) (root start here word : ℕ) (made image : List ℕ) (after : ℕ) → IsStageOf words root start here word made → KeepsRest made image →
    ((other : ℕ) → is_slab image other ≡ is_slab made other) → ((other : ℕ) → large_of (extent_at image other) ≡ put_at (tables_of made).large start after other) →
    IsStageOf words root start after word image
stage_log words root start here word made image after stage rest slab large =
    let t = tables_of words in
    let off = off_log made image rest in
    record {
      formed = IsFormed-off_log made image stage.formed off stage.slabs rest.log slab;
      bounds = bounds_of-off_log made image off ∙ stage.bounds;
      slabs = grind (arith, version_in-off_log);
      size = rest.same_length ∙ stage.size;
      unmoved = stage.unmoved;
      tables = tables_off_log made image (put_at (tables_of made).large start after) off stage.slabs slab large
          ∙ ap (λ (s : Tables). record s { large = put_at s.large start after }) stage.tables
          ∙ ap (λ (larges : ℕ → ℕ). record (with_root t root word) { large = larges }) (put_at-twice t.large start here after);
      heap = λ k high. heap_word-off_log made image k off (omega (arith, high, same_heap_word words made stage.bounds)) ∙ stage.heap k high;
    }

-- with the same extents
pub stage_same : (words : List ℕ) (root start here word : ℕ) (made image : List ℕ) → IsStageOf words root start here word made → KeepsRest made image → HasSameExtents made image → IsStageOf words root start here word image
stage_same words root start here word made image stage rest same =
    let here_is : (tables_of made).large start ≡ here = ap (λ (s : Tables). s.large start) stage.tables ∙ put_at-same (tables_of words).large start here in
    stage_log words root start here word made image here stage rest
    (λ other. ap is_slab_of (same other))
    (λ other. grind (arith, large_table, put_at-own))

-- with an entry done that names the start, where no slab does
pub stage_entry : (words : List ℕ) (root start here word : ℕ) (made image : List ℕ) (entry : LogEntry) (after : ℕ) → IsStageOf words root start here word made → KeepsRest made image → HasExtentsWith made entry image →
    start_of entry ≡ start → large_of (extent_of entry) ≡ after → is_slab_of (extent_of entry) ≡ false → (tables_of words).slab start ≡ false →
    IsStageOf words root start after word image
stage_entry words root start here word made image entry after stage rest extents names large no_slab none =
    let made_none : is_slab made start ≡ false = sym (slab_table made start) ∙ ap (λ (s : Tables). s.slab start) stage.tables ∙ none in
    let larges : put_at (tables_of made).large (start_of entry) (large_of (extent_of entry)) ≡ put_at (tables_of made).large start after = λ i. put_at (tables_of made).large (names i) (large i) in
    stage_log words root start here word made image after stage rest
    (λ other. ap is_slab_of (extents other) ∙ slab_entry made entry other no_slab (ap (is_slab made) names ∙ made_none))
    (λ other. ap large_of (extents other) ∙ large_entry made entry other ∙ ap (λ (f : ℕ → ℕ). f other) larges)

-- a loose extent is gone
pub stage_gone : (words : List ℕ) (root start here word : ℕ) (made image : List ℕ) → IsStageOf words root start here word made → IsExtentGone made start image → IsStageOf words root start 0 word image
stage_gone words root start here word made image stage gone = grind (arith, AreSlabsInHeap-sound, put_at-twice, heap_word-off_log, off_log, same_heap_word)

-- what a call has done

module _ {words : List ℕ} {root start count : ℕ} (exact : IsExactImage words) (place : IsLargePlace (bounds_of words) (tables_of words) root start count) where
  pub gives_none : (here : ℕ) (image : List ℕ) → word_at image fields_word ≡ word_at words fields_word → IsStageOf words root start here 0 image → GivesRoot words root None (slabs (tables_of words)) image
  gives_none here image header stage = record {
    here = none_stage exact place here image stage;
    others = others_stage exact place here 0 image stage;
    slabs = slabs_stage exact place here 0 image stage;
    keeps = keeps_stage exact place here 0 image stage;
    header = header;
  }

  pub gives_some : (image : List ℕ) → word_at image fields_word ≡ word_at words fields_word → IsStageOf words root start count (16384 * start) image → GivesRoot words root (Some (large_block start count)) (slabs (tables_of words)) image
  gives_some image header stage = record {
    here = some_stage exact place image stage;
    others = others_stage exact place count (16384 * start) image stage;
    slabs = slabs_stage exact place count (16384 * start) image stage;
    keeps = keeps_stage exact place count (16384 * start) image stage;
    header = header;
  }

-- the block of a root that names a large extent
pub heap-takable : (b : Bounds) (t : Tables) (root start count : ℕ) → 0 < b.first → IsTakable b t root start count → heap t root ≡ Some (record { at = 16384 * start; size = 16384 * count })
heap-takable b t root start count first takable = grind (arith, is_large-start)
