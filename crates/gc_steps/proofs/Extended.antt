-- An extent comes or goes: the image at each step, and what a crash leaves.
use Rattle.std.proofs.Common.{◌≡◌, ◌≢◌, ◌⊎◌, ◌==◌, ℕ, ◌+◌, ◌-◌, ◌*◌, ◌<◌, ◌≤◌, Bool, true, false, cond, List, length, Some, None, refl, sym, ap, subst, ◌∙◌, arith, inl, ⊎_elim}
use Rattle.std.proofs.lemmas.Bool.{cases_eq, eq-eqb, ne_eqb, cond-true, cond-false, false_from_ne_true}
use Rattle.pmem_lines.specs.Words.{word_at, put_word}
use Rattle.pmem_lines.specs.Pmem.{PmemState, words_of}
use Rattle.pmem_lines.specs.Steps.{IsQuietStep}
use Rattle.pmem_lines.proofs.Words.{word_at-put_same, word_at-put_other, length-put_word}
use Rattle.durable_steps.specs.Steps.{word_events, IsOldOrNewWord}
use Rattle.pool_layout.specs.Layout.{layout_of}
use Rattle.pool_layout.specs.Places.{fields_word, granule_word, heap_word}
use Rattle.pool_layout.specs.Header.{version_field, version_in, granules_in}
use Rattle.image_tables.specs.Log.{active_chunks}
use Rattle.image_tables.specs.Extents.{extent_at}
use Rattle.image_tables.specs.Tables.{Tables, is_slab, is_slab_of, large_of, AreSlabsInHeap, state_word}
use Rattle.image_tables.proofs.Stores.{IsSameOffLog, fields-off_log, heap_word-off_log}
use Rattle.image_tables.proofs.Tables.{slab_table}
use Rattle.book_log.specs.Book.{Book}
use Rattle.book_log.proofs.Books.{Reads-same}
use Rattle.book_log.specs.Live.{AreDisjoint}
use Rattle.book_log.specs.declared.entry.LogEntry.{LogEntry}
use Rattle.book_log.specs.declared.entry.LogEntry.TheVariants.{Large, Slab, Tomb}
use Rattle.book_log.specs.Entry.{start_of, extent_of}
use Rattle.book_log.specs.Log.{with_entry}
use Rattle.log_room.specs.Room.{most_events}
use Rattle.log_steps.specs.Log.{KeepsRest, IsLogged, IsLoggedOrNot, IsBookOf}
use Rattle.log_steps.proofs.Entries.{off_log}
use Rattle.heap_model.specs.Machine.{Bounds, Range, with_key}
use Rattle.heap_model.proofs.Maps.{with_key-here, with_key-other}
use Rattle.heap_check.specs.Heap.{slabs}
use Rattle.heap_check.specs.Image.{bounds_of}
use Rattle.heap_check.specs.Sound.{granules_at, IsVacant}
use Rattle.heap_check.specs.State.{IsWordOf}
use Rattle.gc_check.specs.Heap.{gc_tables, gc_heap}
use Rattle.gc_check.specs.Sound.{IsGcSound, IsGcExact, IsGcExactBut}
use Rattle.gc_check.specs.Image.{IsNormalWord, IsGcFormed, IsGcSoundImage, IsGcExactImage}
use Rattle.gc_check.specs.State.{gc_slabs, HaveSameGcHeap, KeepsGcBlocks, IsEitherGcHeap}
use Rattle.gc_check.proofs.Tables.{over}
use Rattle.gc_check.proofs.Forms.{slabs_high, is_slab-in}
use Rattle.heap_check.proofs.Forms.{bounds_of-off_log}
use Rattle.heap_check.proofs.Geometry.{granules_at-slab, granules_at-large, Covers-slab}
use Rattle.gc_check.proofs.Steps.{gc_sizes, keeps_blocks}
use Rattle.gc_check.proofs.Stages.{either_before}
use Rattle.gc_check.proofs.RootWords.{whole, block_low}
use Rattle.gc_check.proofs.Extents.{HasExtentAt, slab_own, large_own, slab_other, IsExtentComing, no_slab, coming_heap, IsGcExactBut-coming, IsExtentGoing, going_heap, IsGcSound-going, IsGcExact-gone, loose_large-back, empty_slab-back}
use Rattle.gc_check.proofs.Logged.{gc_disjoint, IsRelogged, HasExtentAt-relogged, IsGcFormed-relogged, class_by, block_covers, tables_put_granule, bounds_put_granule, formed_put_granule, fields_put_granule, directory_put_granule, log_put_granule, tables_relogged_same, formed_relogged_same}
use Rattle.gc_steps.specs.Slabs.{normal_word, class_events}
use Rattle.gc_steps.specs.Extents.{MayBeCreated, IsDroppable, IsSlabCreated, IsLargeCreated, IsDropped}
use Rattle.gc_steps.proofs.Words.{stored, by_word, state_at}
use Rattle.gc_steps.proofs.Entries.{most_same}

-- images with the heap of the words

-- a sound image with the same numbers and the same heap, in which blocks have their words, is one that a crash may leave
same_either : (words new image : List ℕ) → IsGcSoundImage image → bounds_of image ≡ bounds_of words → HaveSameGcHeap words image → KeepsGcBlocks words image → IsEitherGcHeap words new image
same_either words new image sound bounds heap keeps = record { sound = sound; bounds = bounds; heap = inl heap; words = keeps }

-- what holds of tables and numbers holds of an image that has the same
of_same : (words image : List ℕ) → bounds_of image ≡ bounds_of words → gc_tables image ≡ gc_tables words → (P : Bounds → Tables → Type 0) → P (bounds_of words) (gc_tables words) → P (bounds_of image) (gc_tables image)
of_same words image bounds tables P p = subst (λ b. P b (gc_tables image)) (sym bounds) (subst (P (bounds_of words)) (sym tables) p)

-- the log, where an entry is done or not

-- the words with another log
module _ {words image : List ℕ} (formed : IsGcFormed words) (sound : IsGcSound (bounds_of words) (gc_tables words)) (rest : KeepsRest words image) where
  in_heap : AreSlabsInHeap words
  in_heap = slabs_high words sound.extents

  off : IsSameOffLog words image
  off = off_log words image rest

  rest_fields : word_at image fields_word ≡ word_at words fields_word
  rest_fields = fields-off_log words image off

  pub rest_bounds : bounds_of image ≡ bounds_of words
  rest_bounds = bounds_of-off_log words image off

  pub rest_words : (k : ℕ) → heap_word (version_in words) ≤ k → word_at image k ≡ word_at words k
  rest_words k high = heap_word-off_log words image k off high

  -- with the same extents
  module _ (same : (start : ℕ) → extent_at image start ≡ extent_at words start) where
    pub still_tables : gc_tables image ≡ gc_tables words
    still_tables = tables_relogged_same in_heap off same

    pub still_sound : IsGcSoundImage image
    still_sound = record { formed = formed_relogged_same in_heap off same rest.log formed; sound = of_same words image rest_bounds still_tables IsGcSound sound }

  -- with an entry done
  module _ (entry : LogEntry) (done : (start : ℕ) → extent_at image start ≡ with_entry (extent_at words) entry start) where
    relogged : IsRelogged words (start_of entry) (extent_of entry) image
    relogged = record {
      off_log = off;
      log = rest.log;
      here = done (start_of entry) ∙ cond-true (start_of entry == start_of entry) (extent_of entry) (extent_at words (start_of entry)) (eq-eqb (start_of entry) (start_of entry) refl);
      others = λ other differ. done other ∙ cond-false (other == start_of entry) (extent_of entry) (extent_at words other) (ne_eqb other (start_of entry) differ);
    }

    pub done_has : HasExtentAt (gc_tables words) (gc_tables image) (start_of entry) (large_of (extent_of entry)) (is_slab_of (extent_of entry))
    done_has = HasExtentAt-relogged in_heap relogged

    pub done_formed : (is_slab_of (extent_of entry) ≡ true → IsNormalWord (word_at image (state_word (start_of entry)))) → IsGcFormed image
    done_formed = IsGcFormed-relogged in_heap relogged formed

-- the slabs with an extent changed
slabs_changed : {t new : Tables} {start large : ℕ} {slab : Bool} → HasExtentAt t new start large slab → (other : ℕ) → slabs new other ≡ with_key (slabs t) start (cond slab (Some (new.header start).class) None) other
slabs_changed {t} {new} {start} {large} {slab} has other = ⊎_elim
    (λ (same : other ≡ start).
    ap (slabs new) same ∙ ap (λ b. cond b (Some (new.header start).class) None) (slab_own has)
    ∙ sym (ap (with_key (slabs t) start (cond slab (Some (new.header start).class) None)) same ∙ with_key-here (slabs t) start (cond slab (Some (new.header start).class) None)))
    (λ (differ : other ≢ start).
    ap (λ b. cond b (Some (new.header other).class) None) (slab_other has other differ)
    ∙ class_same other differ (t.slab other) refl
    ∙ sym (with_key-other (slabs t) start other (cond slab (Some (new.header start).class) None) differ))
    (cases_eq other start)
  where
    class_same : (other : ℕ) → other ≢ start → (is : Bool) → t.slab other ≡ is → cond (t.slab other) (Some (new.header other).class) None ≡ slabs t other
    class_same other differ true is = ap (λ c. cond (t.slab other) (Some c) None) (has.class other differ is)
    class_same other differ false is = cond-false (t.slab other) _ _ is ∙ sym (cond-false (t.slab other) _ _ is)

-- an extent goes

module _ {words : List ℕ} {start : ℕ} (may : IsDroppable words start) where
  first : 0 < (bounds_of words).first
  first = (gc_sizes words may.image.formed).first

  -- it lies in the heap
  pub drop_lies : ((layout_of (version_in words)).first_granule ≤ start) × (start < granules_in words)
  drop_lies =
      let sound = may.image.sound in
      ⊎_elim
      (λ loose. let bounds = sound.extents.starts start (omega (arith, loose.live, whole sound start loose.live)) in (bounds.0, omega (arith, bounds.1, loose.live, whole sound start loose.live)))
      (λ empty. let four = granules_at-slab (gc_tables words) start empty.slab in let bounds = sound.extents.starts start (omega (arith, four)) in (bounds.0, omega (arith, bounds.1, four)))
      may.loose

  pub drop_disjoint : AreDisjoint (extent_at words)
  drop_disjoint = gc_disjoint words may.image.formed may.image.sound

  module _ {image : List ℕ} (logged : IsLogged words (Tomb start) image) where
    going : IsExtentGoing (bounds_of words) (gc_tables words) (gc_tables image) start
    going = record {
      has = done_has may.image.formed may.image.sound logged.rest (Tomb start) logged.extents;
      sound = may.image.sound;
      first = first;
      held = (over words).root;
      loose = may.loose;
    }

    gone_bounds : bounds_of image ≡ bounds_of words
    gone_bounds = rest_bounds may.image.formed may.image.sound logged.rest

    gone_formed : IsGcFormed image
    gone_formed = done_formed may.image.formed may.image.sound logged.rest (Tomb start) logged.extents (λ is. absurd (cc))

    gone_sound : IsGcSoundImage image
    gone_sound = record { formed = gone_formed; sound = subst (λ b. IsGcSound b (gc_tables image)) (sym gone_bounds) (IsGcSound-going going) }

    pub dropped : IsDropped words start image
    dropped = record {
      image = gone_sound;
      gone = large_own going.has;
      header = rest_fields may.image.formed may.image.sound logged.rest;
      heap = record { each = going_heap going };
      slabs = slabs_changed going.has;
      loose = record { large = loose_large-back going; empty = empty_slab-back going };
      exact = λ but. record { formed = gone_formed; exact = subst (λ b. IsGcExact b (gc_tables image)) (sym gone_bounds) (IsGcExact-gone going but) };
    }

  pub dropped_or_not : (new image : List ℕ) → IsLoggedOrNot words (Tomb start) image → IsEitherGcHeap words new image
  dropped_or_not new image left =
      let formed = may.image.formed in
      let sound = may.image.sound in
      let keeps = keeps_blocks words image sound (rest_words formed sound left.rest) in
      ⊎_elim
      (λ same. same_either words new image (still_sound formed sound left.rest same) (rest_bounds formed sound left.rest)
      (record { each = λ root. ap (λ (t : Tables). gc_heap t root) (still_tables formed sound left.rest same) }) keeps)
      (λ less.
      let it : IsLogged words (Tomb start) image = record { rest = left.rest; extents = less } in
      same_either words new image (gone_sound it) (gone_bounds it) (record { each = going_heap (going it) }) keeps)
      left.extents

-- an extent comes

-- an exact image
module _ {words : List ℕ} (exact : IsGcExactImage words) where
  pub exact_disjoint : AreDisjoint (extent_at words)
  exact_disjoint = gc_disjoint words exact.formed exact.exact.sound

  exact_sound : IsGcSoundImage words
  exact_sound = record { formed = exact.formed; sound = exact.exact.sound }

-- large

module _ {words : List ℕ} {start granules : ℕ} (may : MayBeCreated words start granules) (many : 2 ≤ granules) where
  pub large_lies : ((layout_of (version_in words)).first_granule ≤ start) × (2 ≤ granules) × (start + granules ≤ granules_in words)
  large_lies = ((may.vacant start (omega arith) (omega (arith, many))).low, many, omega (arith, many, (may.vacant (start + granules - 1) (omega (arith, many)) (omega (arith, many))).high))

  module _ {image : List ℕ} (logged : IsLogged words (Large start granules) image) where
    large_has : HasExtentAt (gc_tables words) (gc_tables image) start granules false
    large_has = done_has may.image.formed may.image.exact.sound logged.rest (Large start granules) logged.extents

    large_wide : granules_at (gc_tables image) start ≡ granules
    large_wide = granules_at-large (gc_tables image) start (slab_own large_has) ∙ large_own large_has

    large_coming : IsExtentComing (bounds_of words) (gc_tables words) (gc_tables image) start granules false
    large_coming = record {
      has = large_has;
      exact = may.image.exact;
      vacant = λ k low high. may.vacant k low (omega (arith, high, large_wide));
      some = omega (arith, large_wide, many);
      one_kind = λ is. absurd (cc);
      classed = λ is. absurd (cc);
    }

    large_bounds : bounds_of image ≡ bounds_of words
    large_bounds = rest_bounds may.image.formed may.image.exact.sound logged.rest

    large_formed : IsGcFormed image
    large_formed = done_formed may.image.formed may.image.exact.sound logged.rest (Large start granules) logged.extents (λ is. absurd (cc))

    large_but : IsGcExactBut (bounds_of image) (gc_tables image) start
    large_but = subst (λ b. IsGcExactBut b (gc_tables image) start) (sym large_bounds) (IsGcExactBut-coming large_coming)

    large_slabs : (other : ℕ) → gc_slabs image other ≡ gc_slabs words other
    large_slabs other = slabs_changed large_has other ∙ ⊎_elim
        (λ (same : other ≡ start).
        ap (with_key (gc_slabs words) start None) same ∙ with_key-here (gc_slabs words) start None
        ∙ sym (ap (gc_slabs words) same ∙ cond-false ((gc_tables words).slab start) (Some ((gc_tables words).header start).class) None (no_slab large_coming)))
        (λ (differ : other ≢ start). with_key-other (gc_slabs words) start other None differ)
        (cases_eq other start)

    pub large_created : IsLargeCreated words start granules image
    large_created = record {
      image = record { formed = large_formed; but = large_but };
      bounds = large_bounds;
      heap = record { each = coming_heap large_coming };
      slabs = large_slabs;
      size = large_own large_has;
    }

  pub large_or_not : (new image : List ℕ) → IsLoggedOrNot words (Large start granules) image → IsEitherGcHeap words new image
  large_or_not new image left =
      let formed = may.image.formed in
      let sound = may.image.exact.sound in
      let keeps = keeps_blocks words image sound (rest_words formed sound left.rest) in
      ⊎_elim
      (λ same. same_either words new image (still_sound formed sound left.rest same) (rest_bounds formed sound left.rest)
      (record { each = λ root. ap (λ (t : Tables). gc_heap t root) (still_tables formed sound left.rest same) }) keeps)
      (λ more.
      let it : IsLogged words (Large start granules) image = record { rest = left.rest; extents = more } in
      same_either words new image (record { formed = large_formed it; sound = (large_but it).sound }) (large_bounds it) (record { each = coming_heap (large_coming it) }) keeps)
      left.extents

-- a slab

module _ {words : List ℕ} {start class : ℕ} (may : MayBeCreated words start 4) (few : class < 36) where
  abbrev t : Tables
  t = gc_tables words

  abbrev made : List ℕ
  made = put_word words (state_word start) (normal_word class)

  here : IsVacant (bounds_of words) t start
  here = may.vacant start (omega arith) (omega arith)

  none_here : is_slab words start ≡ false
  none_here = false_from_ne_true (is_slab words start) (λ is. here.none start (Covers-slab t start start (is_slab-in words start is) (omega arith) (omega arith)))

  pub start_high : start + 4 ≤ granules_in words
  start_high = omega (arith, (may.vacant (start + 3) (omega arith) (omega arith)).high)

  pub state_inside : state_word start < length words
  state_inside = omega (arith, start_high, may.image.formed.size)

  -- the state word is made

  made_tables : gc_tables made ≡ t
  made_tables = tables_put_granule words start (normal_word class) may.image.formed here.low none_here

  made_bounds : bounds_of made ≡ bounds_of words
  made_bounds = bounds_put_granule words start (normal_word class) may.image.formed here.low none_here

  pub made_exact : IsGcExactImage made
  made_exact = record { formed = formed_put_granule words start (normal_word class) may.image.formed here.low none_here; exact = of_same words made made_bounds made_tables IsGcExact may.image.exact }

  made_version : version_in made ≡ version_in words
  made_version = ap version_field (fields_put_granule words start (normal_word class) may.image.formed here.low none_here)

  pub made_most : most_events made ≡ most_events words
  made_most = most_same words made made_version (ap active_chunks (directory_put_granule words start (normal_word class) may.image.formed here.low none_here))

  pub made_book : (book : Book) → IsBookOf book words → IsBookOf book made
  made_book book log = record {
    reads = Reads-same book words made (log_put_granule words start (normal_word class) may.image.formed here.low none_here) (length-put_word words (state_word start) (normal_word class)) log.reads;
    granules = log.granules ∙ sym (ap (λ (b : Bounds). b.granules) made_bounds);
  }

  pub made_lies : ((layout_of (version_in made)).first_granule ≤ start) × (start + 4 ≤ granules_in made)
  made_lies = (omega (arith, here.low, ap (λ v. (layout_of v).first_granule) made_version), omega (arith, start_high, ap (λ (b : Bounds). b.granules) made_bounds))

  -- no block has that word
  made_word : (root k : ℕ) (range : Range) → gc_heap t root ≡ Some range → IsWordOf range k → word_at made k ≡ word_at words k
  made_word root k range block word = word_at-put_other words (state_word start) k (normal_word class) (λ same.
      let covers = block_covers may.image.exact.sound root k range block word in
      here.none covers.0 (record { low = omega (arith, covers.1.low, same); high = omega (arith, covers.1.high, same) }))

  -- an image with the words of the heap that are made keeps blocks
  keeps_made : (image : List ℕ) → ((k : ℕ) → heap_word (version_in made) ≤ k → word_at image k ≡ word_at made k) → KeepsGcBlocks words image
  keeps_made image same = record {
    each = λ root other range k block also word.
        let high = block_low may.image.exact.sound root range block in
        same k (omega (arith, high, word.low, ap (λ v. (layout_of v).first_granule) made_version)) ∙ made_word root k range block word;
  }

  pub made_either : (new image : List ℕ) → (image ≡ words) ⊎ (image ≡ made) → IsEitherGcHeap words new image
  made_either new image is = ⊎_elim
      (λ before. subst (IsEitherGcHeap words new) (sym before) (same_either words new words (exact_sound may.image) refl (record { each = λ root. refl }) (keeps_blocks words words may.image.exact.sound (λ k high. refl))))
      (λ behind. subst (IsEitherGcHeap words new) (sym behind) (same_either words new made (exact_sound made_exact) made_bounds (record { each = λ root. ap (λ (t : Tables). gc_heap t root) made_tables }) (keeps_made made (λ k high. refl))))
      is

  -- the extent is in the log

  module _ {image : List ℕ} (logged : IsLogged made (Slab start) image) where
    slab_has : HasExtentAt (gc_tables made) (gc_tables image) start 0 true
    slab_has = done_has made_exact.formed made_exact.exact.sound logged.rest (Slab start) logged.extents

    slab_wide : granules_at (gc_tables image) start ≡ 4
    slab_wide = granules_at-slab (gc_tables image) start (slab_own slab_has)

    state_is : word_at image (state_word start) ≡ normal_word class
    state_is =
        rest_words made_exact.formed made_exact.exact.sound logged.rest (state_word start) (omega (arith, made_lies.0))
        ∙ word_at-put_same words (state_word start) (state_word start) (normal_word class) refl state_inside

    is_here : is_slab image start ≡ true
    is_here = sym (slab_table image start) ∙ ap (λ (f : ℕ → Bool). f start) (sym (over image).slab) ∙ slab_own slab_has

    slab_class : ((gc_tables image).header start).class ≡ class
    slab_class = class_by image start class few is_here state_is

    slab_coming : IsExtentComing (bounds_of made) (gc_tables made) (gc_tables image) start 0 true
    slab_coming = record {
      has = slab_has;
      exact = made_exact.exact;
      vacant = λ k low high. of_same words made made_bounds made_tables (λ b t. IsVacant b t k) (may.vacant k low (omega (arith, high, slab_wide)));
      some = omega (arith, slab_wide);
      one_kind = λ is. refl;
      classed = λ is. omega (arith, slab_class, few);
    }

    slab_bounds : bounds_of image ≡ bounds_of made
    slab_bounds = rest_bounds made_exact.formed made_exact.exact.sound logged.rest

    slab_formed : IsGcFormed image
    slab_formed = done_formed made_exact.formed made_exact.exact.sound logged.rest (Slab start) logged.extents (λ is. record { class = class; below = few; is = state_is })

    slab_but : IsGcExactBut (bounds_of image) (gc_tables image) start
    slab_but = subst (λ b. IsGcExactBut b (gc_tables image) start) (sym slab_bounds) (IsGcExactBut-coming slab_coming)

    slab_heap : HaveSameGcHeap words image
    slab_heap = record { each = λ root. coming_heap slab_coming root ∙ ap (λ (t : Tables). gc_heap t root) made_tables }

    pub slab_created : IsSlabCreated words start class image
    slab_created = record {
      image = record { formed = slab_formed; but = slab_but };
      bounds = slab_bounds ∙ made_bounds;
      heap = slab_heap;
      slabs = λ other. slabs_changed slab_has other ∙ ap (λ (x : Tables). with_key (slabs x) start (Some ((gc_tables image).header start).class) other) made_tables ∙ ap (λ c. with_key (gc_slabs words) start (Some c) other) slab_class;
    }

  pub slab_or_not : (new image : List ℕ) → IsLoggedOrNot made (Slab start) image → IsEitherGcHeap words new image
  slab_or_not new image left =
      let formed = made_exact.formed in
      let sound = made_exact.exact.sound in
      let keeps = keeps_made image (rest_words formed sound left.rest) in
      ⊎_elim
      (λ same. same_either words new image (still_sound formed sound left.rest same) (rest_bounds formed sound left.rest ∙ made_bounds)
      (record { each = λ root. ap (λ (t : Tables). gc_heap t root) (still_tables formed sound left.rest same ∙ made_tables) }) keeps)
      (λ more.
      let it : IsLogged made (Slab start) image = record { rest = left.rest; extents = more } in
      same_either words new image (record { formed = slab_formed it; sound = (slab_but it).sound }) (slab_bounds it ∙ made_bounds) (slab_heap it) keeps)
      left.extents

-- the steps

pub state_step : {s t : PmemState} (start class at value : ℕ) → at ≡ 8 * granule_word start → value ≡ normal_word class → MayBeCreated (words_of s) start 4 → class < 36 → IsQuietStep s t (word_events at value) (IsOldOrNewWord (words_of s) at value) →
    IsQuietStep s t (class_events start class) (IsEitherGcHeap (words_of s) (words_of t)) × (words_of t ≡ put_word (words_of s) (state_word start) (normal_word class))
state_step {s} {t} start class at value place word may few given =
    let step = subst (λ v. IsQuietStep s t (word_events at v) (IsOldOrNewWord (words_of s) at v)) word given in
    let is = state_at start at place in (
      by_word at (state_word start) (normal_word class) is step (IsEitherGcHeap (words_of s) (words_of t)) (made_either may few (words_of t)),
      stored at (state_word start) (normal_word class) is step,
    )

-- the words with the state word made, by another name
module _ {words new : List ℕ} {start class : ℕ} (may : MayBeCreated words start 4) (few : class < 36) (is : new ≡ put_word words (state_word start) (normal_word class)) where
  pub put_exact : IsGcExactImage new
  put_exact = subst IsGcExactImage (sym is) (made_exact may few)

  pub put_book : (book : Book) → IsBookOf book words → IsBookOf book new
  put_book book log = subst (IsBookOf book) (sym is) (made_book may few book log)

  pub put_lies : ((layout_of (version_in new)).first_granule ≤ start) × (start + 4 ≤ granules_in new)
  put_lies = subst (λ ws. ((layout_of (version_in ws)).first_granule ≤ start) × (start + 4 ≤ granules_in ws)) (sym is) (made_lies may few)

  pub put_most : most_events new ≡ most_events words
  put_most = ap most_events is ∙ made_most may few

  pub put_either : (after image : List ℕ) → IsEitherGcHeap words new image → IsEitherGcHeap words after image
  put_either after image left = either_before words new after image (subst (HaveSameGcHeap words) (sym is) (record { each = λ root. ap (λ (t : Tables). gc_heap t root) (made_tables may few) })) left

  pub put_created : {image : List ℕ} → IsLogged new (Slab start) image → IsSlabCreated words start class image
  put_created {image} logged = slab_created may few (subst (λ ws. IsLogged ws (Slab start) image) is logged)

  pub put_or_not : (after image : List ℕ) → IsLoggedOrNot new (Slab start) image → IsEitherGcHeap words after image
  put_or_not after image left = slab_or_not may few after image (subst (λ ws. IsLoggedOrNot ws (Slab start) image) is left)
