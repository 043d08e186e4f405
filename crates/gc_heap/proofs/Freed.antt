-- A root has lost its block: which extent is loose then, by what came back to the indexes, and what its going leaves.
use Rattle.std.proofs.Common.{◌≡◌, ◌≢◌, ◌==◌, ◌&&◌, ℕ, zero, suc, ◌+◌, ◌-◌, ◌*◌, ◌/◌, ◌<◌, ◌≤◌, Bool, true, false, cond, List, Option, Some, None, refl, sym, ap, subst, ◌∙◌, arith, inl, inr, ⊎_elim}
use Rattle.std.proofs.lemmas.Bool.{cases_eq, cases_lt, cases_Bool, eq-eqb, cond-false}
use Rattle.pmem_lines.specs.Words.{put_word}
use Rattle.pool_layout.specs.Places.{root_word}
use Rattle.size_classes.proofs.Spacing.{class_size-most}
use Rattle.image_tables.specs.Tables.{Tables}
use Rattle.image_tables.proofs.Updates.{put_at-same, put_at-other}
use Rattle.heap_model.specs.Machine.{Bounds, Range, Machine, IsLarge, with_key, IsOverlapFree, LiesIn}
use Rattle.heap_model.specs.Slabs.{begins_in, live_below}
use Rattle.heap_model.specs.Step.{slabs_without}
use Rattle.heap_model.proofs.Freeing.{BeginsIn, begins_in-here, begins_in-true, begins_at, slabs_stay, slabs_stay-away, left_named}
use Rattle.heap_model.proofs.Maps.{with_key-here, with_key-other}
use Rattle.heap_indexes.proofs.LargeBlocks.{large_off}
use Rattle.heap_indexes.specs.declared.answer.Given.TheVariants as given
use Rattle.heap_check.specs.Image.{bounds_of}
use Rattle.heap_check.proofs.Forms.{bounds_of-same}
use Rattle.heap_check.specs.Sound.{IsInSlab, IsLooseLarge, IsEmptySlab, HasOther}
use Rattle.heap_check.proofs.Geometry.{Covers-slab, is_large-parts}
use Rattle.gc_check.specs.Heap.{address_field, class_field, gc_block, gc_tables}
use Rattle.gc_check.specs.Sound.{IsGcSound, IsExtentOf}
use Rattle.gc_check.specs.Image.{IsGcSoundImage, IsGcExactImage, IsGcExactButImage}
use Rattle.gc_check.specs.State.{gc_blocks, gc_slabs}
use Rattle.gc_check.proofs.Tables.{over}
use Rattle.gc_check.proofs.Heaps.{size_small, gc_heap-some, IsNamed, IsNamed-heap}
use Rattle.gc_check.proofs.RootWords.{with_word, whole}
use Rattle.gc_check.proofs.Forms.{slabs_high, gc_tables-put_root}
use Rattle.gc_check.proofs.Steps.{gc_sizes}
use Rattle.gc_steps.specs.Roots.{IsDetached}
use Rattle.gc_steps.specs.Extents.{IsDroppable, IsDropped}
use Rattle.gc_heap.specs.Arena.{state_in}
use Rattle.gc_heap.specs.Plan.{HasGivenAs, IsFreedWords}
use Rattle.gc_heap.proofs.Sizes.{first_sizes}
use Rattle.gc_heap.proofs.Places.{apart, slab_there, slab_starts}

-- where some root below n has a block that begins in a slab, there is one
live_below-exists : (block : ℕ → Option Range) (s n : ℕ) → live_below block s n ≢ 0 → (root : ℕ) × (root < n) × BeginsIn s (block root)
live_below-exists block s zero some = absurd (some refl)
live_below-exists block s (suc n) some = ⊎_elim
    (λ (is : begins_in s (block n) ≡ true). (n, omega arith, begins_in-true s (block n) is))
    (λ (no : begins_in s (block n) ≡ false).
    let rest = live_below-exists block s n (λ none. some (rw no (omega (arith, none)))) in
    (rest.0, omega (arith, rest.1), rest.2))
    (cases_Bool (begins_in s (block n)))

-- a block of another root is no more of that one
begins_other : (m : Machine) (root r s : ℕ) → BeginsIn s (with_key m.block root None r) → (r ≢ root) × BeginsIn s (m.block r)
begins_other m root r s begins =
    let left = left_named m root r begins.range begins.named in
    (left.0, record { range = begins.range; named = left.1; low = begins.low; high = begins.high })

-- a slab that stays where a block of it goes has another
others_live : (b : Bounds) (m : Machine) (root : ℕ) (range : Range) (s c : ℕ) → begins_in s (Some range) ≡ true → slabs_without b m root range s ≡ Some c → live_below (with_key m.block root None) s b.roots ≢ 0
others_live b m root range s c begins stays none = go (begins_in s (Some range)) (live_below (with_key m.block root None) s b.roots == 0) begins (eq-eqb (live_below (with_key m.block root None) s b.roots) 0 none) stays
  where
    go : (x y : Bool) → x ≡ true → y ≡ true → cond (x && y) None (m.slab s) ≡ Some c → ⊥
    go true true one two is = absurd (cc)
    go true false one two is = absurd (cc)
    go false y one two is = absurd (cc)

module _ {words : List ℕ} {root : ℕ} {range : Range} (image : IsGcExactImage words) (below : root < (bounds_of words).roots) (named : gc_blocks words root ≡ Some range) where
  abbrev b : Bounds
  b = bounds_of words

  abbrev t : Tables
  t = gc_tables words

  abbrev m : Machine
  m = state_in words

  abbrev made : List ℕ
  made = put_word words (root_word root) 0

  sound : IsGcSound b t
  sound = image.exact.sound

  free : IsOverlapFree b m
  free = apart image

  named_word : IsNamed t root range
  named_word = IsNamed-heap t root range named

  at_is : range.at ≡ address_field (t.word root)
  at_is = ap (λ (r : Range). r.at) named_word.is

  first : (bounds_of words).first ≡ 4
  first = (first_sizes words image.formed).first

  made_tables : gc_tables made ≡ with_word t root 0
  made_tables = gc_tables-put_root words root 0 below ((gc_sizes words image.formed).inside root below) (slabs_high words sound.extents)

  made_root_own : (gc_tables made).root root ≡ 0
  made_root_own = ap (λ (x : Tables). x.root root) made_tables ∙ ap address_field (put_at-same t.word root 0)

  made_root_other : (r : ℕ) → r ≢ root → (gc_tables made).root r ≡ t.root r
  made_root_other r differ = ap (λ (x : Tables). x.root r) made_tables ∙ ap address_field (put_at-other t.word root r 0 differ) ∙ sym ((over words).root r)

  -- a root that holds an address has a block there
  block_at : (r : ℕ) → t.root r ≢ 0 → (x : Range) × (gc_blocks words r ≡ Some x) × (x.at ≡ t.root r)
  block_at r some =
      let word : t.word r ≢ 0 = λ none. some ((over words).root r ∙ ap address_field none) in
      (gc_block t.large (t.word r), gc_heap-some t r word, sym ((over words).root r))

  but_sound : (start : ℕ) → IsGcExactButImage made start → IsGcSoundImage made
  but_sound start but = record { formed = but.formed; sound = but.but.sound }

  -- large

  module _ (start : ℕ) (large : IsLarge range) (at : range.at ≡ 16384 * start) where
    no_class : class_field (t.word root) ≡ 0
    no_class = ⊎_elim
        (λ none. none)
        (λ (some : class_field (t.word root) ≢ 0).
        let standing = sound.owned.rooted root named_word.some in
        let size = ap (λ (r : Range). r.size) named_word.is ∙ size_small t.large (t.word root) (omega (arith, some)) in
        absurd (omega (arith, large, size, class_size-most (class_field (t.word root) - 1) (omega (arith, some, standing.form.class)))))
        (cases_eq (class_field (t.word root)) 0)

    live : 0 < t.large start
    live =
        let standing = sound.owned.rooted root named_word.some in
        let own : address_field (t.word root) / 16384 ≡ start = omega (arith, at_is, at) in
        let parts = is_large-parts t.large (address_field (t.word root)) (⊎_elim (λ one. one.1) (λ one. absurd (omega (arith, one.0, no_class))) standing.stands) in
        subst (λ s. 0 < t.large s) own parts.1

    pub large_its : IsExtentOf t (t.word root) start
    large_its = record { low = omega (arith, at_is, at); high = omega (arith, at_is, at, whole sound start live, live) }

    -- no other block begins there
    alone : (r : ℕ) → r ≢ root → t.root r ≢ 16384 * start
    alone r differ same =
        let high = (sound.extents.starts start (omega (arith, whole sound start live, live))).0 in
        let there = block_at r (λ none. omega (arith, none, same, high, first)) in
        let size = free.sized r there.0 there.1 in
        ⊎_elim
        (λ before. omega (arith, before, there.2, same, at, size))
        (λ behind. omega (arith, behind, there.2, same, at, large))
        (free.apart r root there.0 range differ there.1 named)

    large_loose : IsLooseLarge (gc_tables made) start
    large_loose = record {
      live = omega (arith, ap (λ (x : Tables). x.large start) made_tables, live);
      unnamed = λ r same.
          let high = (sound.extents.starts start (omega (arith, whole sound start live, live))).0 in
          ⊎_elim
          (λ (own : r ≡ root). omega (arith, ap (gc_tables made).root own, made_root_own, same, high, first))
          (λ (differ : r ≢ root). alone r differ (sym (made_root_other r differ) ∙ same))
          (cases_eq r root);
    }

    pub large_droppable : IsDetached words root made → IsDroppable made start
    large_droppable detached = record { image = but_sound start (detached.but start large_its); loose = inl large_loose }

    -- no slab goes with it

    no_slab_here : gc_slabs words start ≡ None
    no_slab_here = ⊎_elim
        (λ (slab : t.slab start ≡ true). absurd (omega (arith, live, sound.extents.one_kind start slab)))
        (λ (none : t.slab start ≡ false). cond-false (t.slab start) (Some (t.header start).class) None none)
        (cases_Bool (t.slab start))

    large_stays : (s : ℕ) → slabs_without b m root range s ≡ m.slab s
    large_stays s = slabs_stay-away b m root range s (λ c slab begins.
        let within = begins_at s range begins in
        ⊎_elim (λ before. omega (arith, before, within.0, large)) (λ behind. omega (arith, behind, within.1)) (large_off b m root s c range free named large slab))

    pub large_slabs : (s : ℕ) → with_key (gc_slabs words) start None s ≡ slabs_without b m root range s
    large_slabs s = ⊎_elim
        (λ (same : s ≡ start). ap (with_key (gc_slabs words) start None) same ∙ with_key-here (gc_slabs words) start None ∙ sym (ap (gc_slabs words) same ∙ no_slab_here))
        (λ (differ : s ≢ start). with_key-other (gc_slabs words) start s None differ)
        (cases_eq s start) ∙ sym (large_stays s)

  -- the last block of a slab

  module _ (start class : ℕ) (slab : gc_slabs words start ≡ Some class) (gone : slabs_without b m root range start ≡ None) where
    pub is_slab_t : t.slab start ≡ true
    is_slab_t = slab_there t start class slab

    stays_not : slabs_without b m root range start ≢ m.slab start
    stays_not same = absurd (let is = slab in cc)

    -- the block begins in it
    pub begins_here : (16384 * start ≤ range.at) × (range.at < 16384 * start + 65536)
    begins_here = ⊎_elim
        (λ (before : range.at < 16384 * start). absurd (stays_not (slabs_stay-away b m root range start (λ c is begins. omega (arith, before, begins_at start range begins)))))
        (λ (low : 16384 * start ≤ range.at). ⊎_elim
        (λ (high : range.at < 16384 * start + 65536). (low, high))
        (λ (behind : 16384 * start + 65536 ≤ range.at). absurd (stays_not (slabs_stay-away b m root range start (λ c is begins. omega (arith, behind, begins_at start range begins)))))
        (cases_lt range.at (16384 * start + 65536)))
        (cases_lt range.at (16384 * start))

    pub slab_its : IsExtentOf t (t.word root) start
    slab_its = Covers-slab t start (address_field (t.word root) / 16384) is_slab_t (omega (arith, at_is, begins_here.0)) (omega (arith, at_is, begins_here.1))

    -- no other root has a block in it
    pub no_other : (r : ℕ) → r ≢ root → t.root r ≢ 0 → ¬ (IsInSlab t start (t.root r))
    no_other r differ some inside =
        let there = block_at r some in
        stays_not (slabs_stay b m root r range start (free.rooted r there.0 there.1) differ (record { range = there.0; named = there.1; low = omega (arith, there.2, inside.low); high = omega (arith, there.2, inside.high) }))

    slab_empty : IsEmptySlab (gc_tables made) start
    slab_empty = record {
      slab = ap (λ (x : Tables). x.slab start) made_tables ∙ is_slab_t;
      none = λ r some inside. ⊎_elim
          (λ (own : r ≡ root). some (ap (gc_tables made).root own ∙ made_root_own))
          (λ (differ : r ≢ root).
          let at = made_root_other r differ in
          no_other r differ (λ none. some (at ∙ none)) (record { slab = is_slab_t; low = omega (arith, inside.low, at); high = omega (arith, inside.high, at) }))
          (cases_eq r root);
    }

    pub slab_droppable : IsDetached words root made → IsDroppable made start
    slab_droppable detached = record { image = but_sound start (detached.but start slab_its); loose = inr slab_empty }

  -- a block of a slab in which others live

  module _ (small : ¬ (IsLarge range)) (stays : (s : ℕ) → slabs_without b m root range s ≡ m.slab s) where
    pub home : (s : ℕ) × (c : ℕ) × (gc_slabs words s ≡ Some c) × LiesIn s range
    home = free.small root range named small

    pub home_slab : t.slab home.0 ≡ true
    home_slab = slab_there t home.0 home.1 home.2

    -- where the block lies in it
    pub home_lies : (16384 * home.0 ≤ range.at) × (range.at < 16384 * home.0 + 65536)
    home_lies = let some = free.sized root range named in (home.3.low, omega (arith, home.3.high, some))

    pub other_here : HasOther t root home.0
    other_here =
        let start = home.0 in
        let begins : begins_in start (Some range) ≡ true = begins_in-here start range home_lies.0 home_lies.1 in
        let there = live_below-exists (with_key m.block root None) start b.roots (others_live b m root range start home.1 begins (stays start ∙ home.2)) in
        let other = begins_other m root there.0 start there.2 in
        let named_there = IsNamed-heap t there.0 other.1.range other.1.named in
        let at : t.root there.0 ≡ other.1.range.at = (over words).root there.0 ∙ sym (ap (λ (r : Range). r.at) named_there.is) in
        let high = (slab_starts image start home_slab).0 in
        record { other = there.0; differ = other.0; some = λ none. omega (arith, none, at, other.1.low, high, first); inside = record { slab = home_slab; low = omega (arith, at, other.1.low); high = omega (arith, at, other.1.high) } }

    pub block_exact : IsDetached words root made → IsGcExactImage made
    block_exact detached =
        detached.exact home.0 (Covers-slab t home.0 (address_field (t.word root) / 16384) home_slab (omega (arith, at_is, home_lies.0)) (omega (arith, at_is, home_lies.1))) other_here

-- what is left

-- the extent went behind the block
pub gone_words : {words made new : List ℕ} {root start : ℕ} (range : Range) → IsDetached words root made → IsDropped made start new → IsExtentOf (gc_tables words) ((gc_tables words).word root) start →
    ((s : ℕ) → with_key (gc_slabs words) start None s ≡ slabs_without (bounds_of words) (state_in words) root range s) → IsFreedWords words root range new
gone_words {words} {made} {new} {root} {start} range detached dropped its slabs = record {
  image = dropped.exact (detached.but start its).but;
  bounds = bounds_of-same made new dropped.header ∙ detached.change.bounds;
  blocks = λ other. dropped.heap.each other ∙ detached.change.blocks other;
  slabs = λ s. dropped.slabs s ∙ (λ i. with_key (λ r. detached.change.slabs r i) start None s) ∙ slabs s;
}

-- nothing else went
pub left_words : {words made : List ℕ} {root : ℕ} (range : Range) → IsGcExactImage made → IsDetached words root made → ((s : ℕ) → slabs_without (bounds_of words) (state_in words) root range s ≡ gc_slabs words s) → IsFreedWords words root range made
left_words {words} {made} {root} range exact detached stays = record { image = exact; bounds = detached.change.bounds; blocks = detached.change.blocks; slabs = λ s. detached.change.slabs s ∙ sym (stays s) }

-- by what came back

module _ {words new : List ℕ} {root : ℕ} (image : IsGcExactImage words) (is : new ≡ put_word words (root_word root) 0) (detached : IsDetached words root new) where
  -- the words by their store
  stored : IsDetached words root (put_word words (root_word root) 0)
  stored = subst (IsDetached words root) is detached

  pub drops_large : (range : Range) (start : ℕ) → HasGivenAs words root range (given.Granules start) → IsDroppable new start
  drops_large range start has = subst (λ ws. IsDroppable ws start) (sym is) (large_droppable image has.rooted has.named start has.as_what.0 has.as_what.1 stored)

  pub freed_large : (range : Range) (start : ℕ) (last : List ℕ) → HasGivenAs words root range (given.Granules start) → IsDropped new start last → IsFreedWords words root range last
  freed_large range start last has dropped =
      gone_words range detached dropped (large_its image has.rooted has.named start has.as_what.0 has.as_what.1) (large_slabs image has.rooted has.named start has.as_what.0 has.as_what.1)

  -- the slab at the start is gone
  slab_gone : (range : Range) (start : ℕ) → HasGivenAs words root range (given.Slab start) → slabs_without (bounds_of words) (state_in words) root range start ≡ None
  slab_gone range start has = has.as_what.2 start ∙ with_key-here (gc_slabs words) start None

  pub drops_slab : (range : Range) (start : ℕ) → HasGivenAs words root range (given.Slab start) → IsDroppable new start
  drops_slab range start has = subst (λ ws. IsDroppable ws start) (sym is) (slab_droppable image has.rooted has.named start has.as_what.1.0 has.as_what.1.1 (slab_gone range start has) stored)

  pub freed_slab : (range : Range) (start : ℕ) (last : List ℕ) → HasGivenAs words root range (given.Slab start) → IsDropped new start last → IsFreedWords words root range last
  freed_slab range start last has dropped =
      gone_words range detached dropped (slab_its image has.rooted has.named start has.as_what.1.0 has.as_what.1.1 (slab_gone range start has)) (λ s. sym (has.as_what.2 s))

  pub freed_block : (range : Range) → HasGivenAs words root range given.Block → IsFreedWords words root range new
  freed_block range has = left_words range (subst IsGcExactImage (sym is) (block_exact image has.rooted has.named has.as_what.0 has.as_what.1 stored)) detached has.as_what.1
