-- A place that a malloc found: where its block lies, what has to be there for a root, and what the root's word leaves.
use Rattle.std.proofs.Common.{◌≡◌, ◌≢◌, ℕ, ◌+◌, ◌-◌, ◌*◌, ◌/◌, ◌^◌, ◌<◌, ◌≤◌, Bool, true, false, cond, List, Some, None, refl, sym, ap, subst, ◌∙◌, arith, inl, inr, ⊎_elim}
use Rattle.std.proofs.lemmas.Bool.{cases_Bool, cond-true, false_from_ne_true}
use Rattle.heap_model.proofs.Maps.{with_key-here}
use Rattle.size_classes.specs.Classes.{class_size}
use Rattle.size_classes.proofs.Spacing.{class_size-least}
use Rattle.pool_layout.specs.Header.{granules_in}
use Rattle.image_tables.specs.Tables.{Tables, is_slab}
use Rattle.image_tables.proofs.Tables.{slab_table}
use Rattle.heap_model.specs.Machine.{Bounds, Range, Machine, with_key, AreApart, slab_block, IsUnused, IsFreeGranule, IsOverlapFree}
use Rattle.heap_model.specs.Choice.{range_of}
use Rattle.heap_model.specs.Runs.{IsBestFit}
use Rattle.heap_model.proofs.Fits.{fit_free}
use Rattle.heap_model.proofs.Placing.{IsUnused-free, apart_back}
use Rattle.heap_model.proofs.Slabbing.{LiesIn-block}
use Rattle.heap_model.proofs.Steps.{row_of_fit}
use Rattle.heap_indexes.specs.Steps.{site_of}
use Rattle.heap_indexes.specs.declared.answer.Place.{Place}
use Rattle.heap_indexes.specs.declared.answer.Place.TheVariants.{Granules, InSlab, InMorph, InNewSlab}
use Rattle.heap_check.specs.Heap.{is_large}
use Rattle.heap_check.specs.Image.{bounds_of}
use Rattle.heap_check.specs.Sound.{IsVacant}
use Rattle.heap_check.proofs.Geometry.{granules_at-slab, granules_at-large, Covers-slab, is_large-start, granule_of-start}
use Rattle.heap_check.proofs.LargeLogs.{large_many}
use Rattle.gc_check.specs.Heap.{address_field, class_field, small_word, gc_size, gc_block, gc_tables}
use Rattle.gc_check.specs.Sound.{IsClassBlock, IsGcStanding, IsGcSound, IsExtentOf}
use Rattle.gc_check.specs.Image.{IsGcExactImage, IsGcExactButImage}
use Rattle.gc_check.specs.State.{gc_blocks, gc_slabs}
use Rattle.gc_check.proofs.Tables.{over}
use Rattle.gc_check.proofs.Heaps.{size_large, size_small, gc_heap-some}
use Rattle.gc_check.proofs.RootWords.{whole, in_slab}
use Rattle.gc_check.proofs.ExactStates.{law_of_exact_gc_state}
use Rattle.gc_steps.specs.Roots.{IsAttachable, IsAttached}
use Rattle.gc_steps.specs.Slabs.{IsClassPut}
use Rattle.gc_steps.specs.Extents.{MayBeCreated, IsSlabCreated, IsLargeCreated}
use Rattle.gc_heap.specs.Arena.{state_in}
use Rattle.gc_heap.specs.Plan.{HasPlaceFor, IsBlockPlace, IsInReach, start_of_place, word_of_place, IsPrepared, IsPlacedWords}
use Rattle.gc_heap.proofs.Sizes.{first_sizes}
use Rattle.gc_heap.proofs.States.{state_of_image}
use Rattle.gc_heap.proofs.RootBlocks.{no_word}

-- slabs by their state

pub slab_there : (t : Tables) (start class : ℕ) → cond (t.slab start) (Some (t.header start).class) None ≡ Some class → t.slab start ≡ true
slab_there t start class is = by (t.slab start) is
  where
    by : (here : Bool) → cond here (Some (t.header start).class) None ≡ Some class → here ≡ true
    by true is = refl
    by false is = absurd (cc)

-- a slab of the state is one of the words
pub slab_of_words : (words : List ℕ) (start class : ℕ) → gc_slabs words start ≡ Some class → is_slab words start ≡ true
slab_of_words words start class is = sym (slab_table words start) ∙ ap (λ (f : ℕ → Bool). f start) (sym (over words).slab) ∙ slab_there (gc_tables words) start class is

module _ {words : List ℕ} (image : IsGcExactImage words) where
  abbrev b : Bounds
  b = bounds_of words

  abbrev t : Tables
  t = gc_tables words

  abbrev m : Machine
  m = state_in words

  abbrev sound : IsGcSound b t
  sound = image.exact.sound

  pub apart : IsOverlapFree (bounds_of words) (state_in words)
  apart = law_of_exact_gc_state words (state_in words) image (state_of_image words)

  pub slab_starts : (start : ℕ) → t.slab start ≡ true → (b.first ≤ start) × (start + 4 ≤ granules_in words)
  slab_starts start slab = let four = granules_at-slab t start slab in let ends = sound.extents.starts start (omega (arith, four)) in (ends.0, omega (arith, ends.1, four))

  -- a live large extent is the block of a root

  pub many : (start : ℕ) → 0 < t.large start → 2 ≤ t.large start
  many start live = let is = (over words).large in omega (arith, ap (λ (f : ℕ → ℕ). f start) is, large_many words start (omega arith) image.formed.log (omega (arith, ap (λ (f : ℕ → ℕ). f start) is, live)))

  -- no small block begins where it does
  no_small : (start word : ℕ) → 0 < t.large start → IsGcStanding t word → address_field word ≡ 16384 * start → class_field word ≡ 0
  no_small start word live standing at = ⊎_elim
      (λ large. large.0)
      (λ small.
      let inside = in_slab sound (omega (arith, small.0, standing.form.class)) small.1 in
      let own = small.1.start in
      let same = sound.extents.disjoint own start start (Covers-slab t own start inside.slab (omega (arith, inside.low, at)) (omega (arith, inside.high, at))) (record { low = omega arith; high = omega (arith, whole sound start live, live) }) in
      absurd (omega (arith, live, ap t.large same, sound.extents.one_kind own inside.slab)))
      standing.stands

  pub large_named : (start : ℕ) → 0 < t.large start → (root : ℕ) × (gc_blocks words root ≡ Some (record { at = 16384 * start; size = 16384 * t.large start }))
  large_named start live =
      let named = image.exact.all_named start live in
      let word = t.word named.0 in
      let low = (sound.extents.starts start (omega (arith, live, whole sound start live))).0 in
      let at : address_field word ≡ 16384 * start = sym ((over words).root named.0) ∙ named.1 in
      let some : word ≢ 0 = λ none. omega (arith, ap address_field none, at, low, (first_sizes words image.formed).first) in
      let none = no_small start word live (sound.owned.rooted named.0 some) at in
      let size : gc_size t.large word ≡ 16384 * t.large start = size_large t.large word none ∙ ap (λ k. 16384 * t.large k) (ap (λ a. a / 16384) at ∙ granule_of-start start) in
      (named.0, gc_heap-some t named.0 some ∙ (λ i. Some (record { at = at i; size = size i })))

  -- so a granule that is free in the state is vacant
  pub free_vacant : (k : ℕ) → IsFreeGranule b m k → IsVacant b t k
  free_vacant k free = record {
    low = free.low;
    high = free.high;
    none = λ start covers. ⊎_elim
        (λ (slab : t.slab start ≡ true). ⊎_elim
        (λ before. omega (arith, before, covers.low))
        (λ behind. omega (arith, behind, covers.high, granules_at-slab t start slab))
        (free.no_slab start (t.header start).class (cond-true (t.slab start) (Some (t.header start).class) None slab)))
        (λ (no_slab : t.slab start ≡ false).
        let size = granules_at-large t start no_slab in
        let live : 0 < t.large start = omega (arith, covers.low, covers.high, size) in
        let named = large_named start live in
        free.no_block named.0 (record { at = 16384 * start; size = 16384 * t.large start }) named.1 (omega (arith, many start live)) (record { begins = omega (arith, covers.low); ends = omega (arith, covers.high, size) }))
        (cases_Bool (t.slab start));
  }

  -- granules at their best fit may get an extent
  pub fit_creatable : (start count : ℕ) → IsBestFit (IsFreeGranule b m) count start → MayBeCreated words start count
  fit_creatable start count fit = record { image = image; vacant = λ k low high. free_vacant k (fit_free (IsFreeGranule b m) count start k fit low high) }

  fit_ends : (start count : ℕ) → 0 < count → IsBestFit (IsFreeGranule b m) count start → start + count ≤ granules_in words
  fit_ends start count some fit = omega (arith, some, ((fit_creatable start count fit).vacant (start + count - 1) (omega (arith, some)) (omega (arith, some))).high)

  -- the block of a place

  few : granules_in words ≤ 1024
  few = (first_sizes words image.formed).most

  pub in_reach : (place : Place) → HasPlaceFor words place → IsInReach place
  in_reach (Granules start granules) has = let is = has.chosen in let two : 2 ≤ granules = omega (arith, is.large, is.count_is) in (two, omega (arith, fit_ends start granules (omega (arith, two)) is.fit, few))
  in_reach (InSlab start class number) has =
      let is = has.chosen in (omega (arith, few, slab_starts start (slab_there t start class is.slab)), is.least.is_class, is.block.within)
  in_reach (InMorph start class number) has =
      let is = has.chosen in (omega (arith, few, slab_starts start (slab_there t start is.best.fit.class is.best.fit.slab)), is.least.is_class, is.block.within)
  in_reach (InNewSlab start class number) has =
      let is = has.chosen in (omega (arith, few, fit_ends start 4 (omega arith) is.fit), is.least.is_class, is.within)

  -- it overlaps no live block
  pub unused_place : (place : Place) → HasPlaceFor words place → IsUnused m (range_of (site_of place))
  unused_place (Granules start granules) has =
      let is = has.chosen in
      IsUnused-free b m start granules (record { at = 16384 * start; size = 16384 * granules }) apart (omega (arith, is.large, is.count_is)) (row_of_fit (IsFreeGranule b m) granules start is.fit) (omega arith) (omega arith)
  unused_place (InSlab start class number) has = record { each = has.chosen.block.unused.each }
  unused_place (InMorph start class number) has = record { each = has.chosen.block.unused.each }
  unused_place (InNewSlab start class number) has =
      let is = has.chosen in
      let lies = LiesIn-block start class (slab_block start class number) (record { number = number; within = is.within; is = refl }) in
      IsUnused-free b m start 4 (slab_block start class number) apart (omega arith) (row_of_fit (IsFreeGranule b m) 4 start is.fit) lies.low (omega (arith, lies.high))

  -- the image as it is

  pub exact_but : (start : ℕ) → IsGcExactButImage words start
  exact_but start = record {
    formed = image.formed;
    but = record { sound = sound; others_named = λ other differ. image.exact.all_named other; others_live = λ other differ. image.exact.all_live other };
  }

  pub prepared_slab : (start class number : ℕ) → IsPrepared words (InSlab start class number) words
  prepared_slab start class number = record { image = exact_but start; bounds = refl; heap = record { each = λ root. refl }; slabs = λ s. refl; wide = tt }

-- what is there for a root

pub prepared_large : {words new : List ℕ} {start granules : ℕ} → IsLargeCreated words start granules new → IsPrepared words (Granules start granules) new
prepared_large {words} {new} {start} {granules} made = record { image = made.image; bounds = made.bounds; heap = made.heap; slabs = made.slabs; wide = made.size }

pub prepared_morph : {words new : List ℕ} {start class : ℕ} (number : ℕ) → IsClassPut words start class new → IsPrepared words (InMorph start class number) new
prepared_morph {words} {new} {start} {class} number put = record { image = exact_but put.image start; bounds = put.bounds; heap = put.heap; slabs = put.slabs; wide = tt }

pub prepared_new : {words new : List ℕ} {start class : ℕ} (number : ℕ) → IsSlabCreated words start class new → IsPrepared words (InNewSlab start class number) new
prepared_new {words} {new} {start} {class} number made = record { image = made.image; bounds = made.bounds; heap = made.heap; slabs = made.slabs; wide = tt }

-- the word of a place

-- the word says the address and the class
record SaysPlace (word at field : ℕ) : Type 0 where
  at_is : address_field word ≡ at
  field_is : class_field word ≡ field
  few : word < 2 ^ 40
  some : word ≢ 0

small_says : (at class : ℕ) → at < 2 ^ 32 → class < 36 → SaysPlace (small_word at class) at (class + 1)
small_says at class low few = record { at_is = omega (arith, low); field_is = omega (arith, low, few); few = omega (arith, low, few); some = λ none. omega (arith, none) }

large_says : (start : ℕ) → 4 ≤ start → start < 1024 → SaysPlace (16384 * start) (16384 * start) 0
large_says start high low = record { at_is = omega (arith, low); field_is = omega (arith, low); few = omega (arith, low); some = λ none. omega (arith, none, high) }

-- the word of a place in tables that have its extent
record IsPlacedWord (t : Tables) (start word : ℕ) (range : Range) : Type 0 where
  some : word ≢ 0
  standing : IsGcStanding t word
  its : IsExtentOf t word start
  block : gc_block t.large word ≡ range

small_placed : (t : Tables) (start class number : ℕ) → IsBlockPlace start class number → t.slab start ≡ true → IsPlacedWord t start (small_word (slab_block start class number).at class) (slab_block start class number)
small_placed t start class number reach slab =
    let range = slab_block start class number in
    let lies = LiesIn-block start class range (record { number = number; within = reach.2; is = refl }) in
    let says = small_says range.at class (omega (arith, lies.high, reach.0)) reach.1 in
    let word = small_word range.at class in
    let class_is : class_field word - 1 ≡ class = omega (arith, says.field_is) in
    record {
      some = says.some;
      standing = record {
        form = record { few = says.few; class = omega (arith, says.field_is, reach.1) };
        stands = inr (omega (arith, says.field_is), subst (λ c. IsClassBlock t.slab c (address_field word)) (sym class_is) (record { start = start; number = number; slab = slab; below = reach.2; is = says.at_is }));
      };
      its = Covers-slab t start (address_field word / 16384) slab (omega (arith, says.at_is, lies.low)) (omega (arith, says.at_is, lies.high, class_size-least class reach.1));
      block = λ i. record { at = says.at_is i; size = (size_small t.large word (omega (arith, says.field_is)) ∙ ap class_size class_is) i };
    }

large_placed : (t : Tables) (start granules : ℕ) → 4 ≤ start → 2 ≤ granules → start + granules ≤ 1024 → t.slab start ≡ false → t.large start ≡ granules → IsPlacedWord t start (16384 * start) (record { at = 16384 * start; size = 16384 * granules })
large_placed t start granules high two few no_slab is =
    let says = large_says start high (omega (arith, two, few)) in
    let word = 16384 * start in
    record {
      some = says.some;
      standing = record {
        form = record { few = says.few; class = omega (arith, says.field_is) };
        stands = inl (says.field_is, subst (λ a. is_large t.large a ≡ true) (sym says.at_is) (is_large-start t.large start (omega (arith, is, two))));
      };
      its = record { low = omega (arith, says.at_is); high = omega (arith, says.at_is, granules_at-large t start no_slab, is, two) };
      block = λ i. record { at = says.at_is i; size = (size_large t.large word says.field_is ∙ ap (λ a. 16384 * t.large (a / 16384)) says.at_is ∙ ap (λ k. 16384 * t.large k) (granule_of-start start) ∙ ap (λ n. 16384 * n) is) i };
    }

-- a root gets the block

module _ {words : List ℕ} (image : IsGcExactImage words) (new : List ℕ) where
  -- the slab of a place is there
  slab_new : (start class : ℕ) → gc_slabs new start ≡ with_key (gc_slabs words) start (Some class) start → (gc_tables new).slab start ≡ true
  slab_new start class is = slab_there (gc_tables new) start class (is ∙ with_key-here (gc_slabs words) start (Some class))

  -- a large extent is no slab
  no_slab_new : (start granules : ℕ) → 2 ≤ granules → (gc_tables new).large start ≡ granules → IsGcExactButImage new start → (gc_tables new).slab start ≡ false
  no_slab_new start granules two is but = false_from_ne_true ((gc_tables new).slab start) (λ slab. omega (arith, two, is, but.but.sound.extents.one_kind start slab))

  placed_word : (place : Place) → HasPlaceFor words place → IsPrepared words place new → IsPlacedWord (gc_tables new) (start_of_place place) (word_of_place place) (range_of (site_of place))
  placed_word (Granules start granules) has made =
      let reach = in_reach image (Granules start granules) has in
      let low = ((fit_creatable image start granules has.chosen.fit).vacant start (omega arith) (omega (arith, reach.0))).low in
      large_placed (gc_tables new) start granules (omega (arith, low, (first_sizes words image.formed).first)) reach.0 reach.1 (no_slab_new start granules reach.0 made.wide made.image) made.wide
  placed_word (InSlab start class number) has made =
      small_placed (gc_tables new) start class number (in_reach image (InSlab start class number) has) (slab_there (gc_tables new) start class (made.slabs start ∙ has.chosen.slab))
  placed_word (InMorph start class number) has made =
      small_placed (gc_tables new) start class number (in_reach image (InMorph start class number) has) (slab_new start class (made.slabs start))
  placed_word (InNewSlab start class number) has made =
      small_placed (gc_tables new) start class number (in_reach image (InNewSlab start class number) has) (slab_new start class (made.slabs start))

  pub attachable : (place : Place) (root : ℕ) → HasPlaceFor words place → IsPrepared words place new → root < (bounds_of words).roots → gc_blocks words root ≡ None → IsAttachable new root (word_of_place place)
  attachable place root has made below none =
      let word = placed_word place has made in
      record {
        rooted = omega (arith, below, ap (λ (b : Bounds). b.roots) made.bounds);
        none = no_word new root (made.heap.each root ∙ none);
        some = word.some;
        standing = word.standing;
        apart = λ other range named.
            let unused = (unused_place image place has).each other range (sym (made.heap.each other) ∙ named) in
            subst (AreApart range) (sym word.block) (apart_back (range_of (site_of place)) range unused);
        start = start_of_place place;
        its = word.its;
        image = made.image;
      }

  pub placed_words : (place : Place) (root : ℕ) (last : List ℕ) → HasPlaceFor words place → IsPrepared words place new → IsAttached new root (word_of_place place) last → IsPlacedWords words root place last
  placed_words place root last has made attached =
      let word = placed_word place has made in
      record {
        image = attached.image;
        bounds = attached.change.bounds ∙ made.bounds;
        blocks = λ other. attached.change.blocks other ∙ ap (λ r. with_key (gc_blocks new) root (Some r) other) word.block ∙ (λ i. with_key (λ r. made.heap.each r i) root (Some (range_of (site_of place))) other);
        slabs = λ start. attached.change.slabs start ∙ made.slabs start;
      }
