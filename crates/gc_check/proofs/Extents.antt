-- An extent comes to vacant granules, or goes where no root's block lies in it: the tables before and after. The heap is the same,
-- and so is whether the image is sound; what is loose is the extent alone.
use Rattle.std.proofs.Common.{◌≡◌, ◌≢◌, ◌⊎◌, ◌==◌, ℕ, ◌+◌, ◌-◌, ◌*◌, ◌/◌, ◌<◌, ◌≤◌, Bool, true, false, cond, sym, ap, subst, ◌∙◌, arith, inl, inr, ⊎_elim, Some, None}
use Rattle.std.proofs.lemmas.Bool.{cases_eq, cases_lt, false_from_ne_true}
use Rattle.image_tables.specs.Tables.{Tables}
use Rattle.image_tables.specs.Updates.{put_at}
use Rattle.image_tables.proofs.Updates.{put_at-same, put_at-other}
use Rattle.heap_model.specs.Machine.{Bounds}
use Rattle.heap_check.specs.Heap.{is_large}
use Rattle.heap_check.specs.Sound.{granules_at, Covers, IsVacant, IsInSlab, AreExtents, IsLooseLarge, IsEmptySlab}
use Rattle.heap_check.proofs.Geometry.{granules_at-large, Covers-slab, is_large-parts, is_large-put}
use Rattle.heap_check.proofs.Loose.{AtMostOne-one, AtMostOne-fewer}
use Rattle.gc_check.specs.Heap.{address_field, class_field, gc_size, gc_block, gc_heap}
use Rattle.gc_check.specs.Sound.{IsClassBlock, IsGcStanding, IsGcSound, IsGcExact, IsGcExactBut}
use Rattle.gc_check.proofs.Heaps.{size_large, size_small}
use Rattle.gc_check.proofs.RootWords.{in_slab}

-- The second tables have another extent at a start: a large one of so many granules, a slab, or none. They say the same of roots,
-- of the other extents, and of the classes of the other slabs.
pub record HasExtentAt (t new : Tables) (start large : ℕ) (slab : Bool) : Type 0 where
  pub word : new.word ≡ t.word
  pub root : new.root ≡ t.root
  pub large_is : new.large ≡ put_at t.large start large
  pub slab_is : new.slab ≡ put_at t.slab start slab
  pub class : (other : ℕ) → other ≢ start → t.slab other ≡ true → (new.header other).class ≡ (t.header other).class

-- no root's word names the large extent at a start
pub record IsOffLarge (t : Tables) (start : ℕ) : Type 0 where
  pub each : (root : ℕ) → t.word root ≢ 0 → class_field (t.word root) ≡ 0 → address_field (t.word root) / 16384 ≢ start

module _ {t new : Tables} {start large : ℕ} {slab : Bool} (has : HasExtentAt t new start large slab) where
  pub large_own : new.large start ≡ large
  large_own = ap (λ (f : ℕ → ℕ). f start) has.large_is ∙ put_at-same t.large start large

  pub slab_own : new.slab start ≡ slab
  slab_own = ap (λ (f : ℕ → Bool). f start) has.slab_is ∙ put_at-same t.slab start slab

  large_other : (other : ℕ) → other ≢ start → new.large other ≡ t.large other
  large_other other differ = ap (λ (f : ℕ → ℕ). f other) has.large_is ∙ put_at-other t.large start other large differ

  pub slab_other : (other : ℕ) → other ≢ start → new.slab other ≡ t.slab other
  slab_other other differ = ap (λ (f : ℕ → Bool). f other) has.slab_is ∙ put_at-other t.slab start other slab differ

  granules_other : (other : ℕ) → other ≢ start → granules_at new other ≡ granules_at t other
  granules_other other differ = ap (λ b. cond b 4 (new.large other)) (slab_other other differ) ∙ ap (λ n. cond (t.slab other) 4 n) (large_other other differ)

  Covers-back : (other k : ℕ) → other ≢ start → Covers new other k → Covers t other k
  Covers-back other k differ covers = record { low = covers.low; high = omega (arith, covers.high, granules_other other differ) }

  held : (root : ℕ) → new.root root ≡ t.root root
  held root = ap (λ (f : ℕ → ℕ). f root) has.root

  words : (root : ℕ) → new.word root ≡ t.word root
  words root = ap (λ (f : ℕ → ℕ). f root) has.word

  IsInSlab-back : (other at : ℕ) → other ≢ start → IsInSlab new other at → IsInSlab t other at
  IsInSlab-back other at differ inside = record { slab = sym (slab_other other differ) ∙ inside.slab; low = inside.low; high = inside.high }

  IsInSlab-forth : (other at : ℕ) → other ≢ start → IsInSlab t other at → IsInSlab new other at
  IsInSlab-forth other at differ inside = record { slab = slab_other other differ ∙ inside.slab; low = inside.low; high = inside.high }

  -- the heap

  size_same : (word : ℕ) → (class_field word ≡ 0 → address_field word / 16384 ≢ start) → gc_size new.large word ≡ gc_size t.large word
  size_same word off = ⊎_elim
      (λ (none : class_field word ≡ 0). size_large new.large word none ∙ ap (λ n. 16384 * n) (large_other (address_field word / 16384) (off none)) ∙ sym (size_large t.large word none))
      (λ (some : class_field word ≢ 0). size_small new.large word (omega (arith, some)) ∙ sym (size_small t.large word (omega (arith, some))))
      (cases_eq (class_field word) 0)

  pub gc_heap-extent : IsOffLarge t start → (root : ℕ) → gc_heap new root ≡ gc_heap t root
  gc_heap-extent off root =
      ap (λ w. cond (w == 0) None (Some (gc_block new.large w))) (words root) ∙ ⊎_elim
      (λ (none : t.word root ≡ 0).
      ap (λ w. cond (w == 0) None (Some (gc_block new.large w))) none ∙ sym (ap (λ w. cond (w == 0) None (Some (gc_block t.large w))) none))
      (λ (some : t.word root ≢ 0).
      ap (λ (n : ℕ). cond (t.word root == 0) None (Some (record { at = address_field (t.word root); size = n }))) (size_same (t.word root) (off.each root some)))
      (cases_eq (t.word root) 0)

  -- a block stands still that lies in another extent
  standing_same : (word : ℕ) → (class_field word ≡ 0 → address_field word ≢ 16384 * start) → ((block : IsClassBlock t.slab (class_field word - 1) (address_field word)) → 0 < class_field word → block.start ≢ start) →
      IsGcStanding t word → IsGcStanding new word
  standing_same word no_large no_slab standing = record {
    form = standing.form;
    stands = ⊎_elim
        (λ one. inl (one.0, ap (λ f. is_large f (address_field word)) has.large_is ∙ is_large-put t.large start large (address_field word) (no_large one.0) ∙ one.1))
        (λ one. let block = one.1 in inr (
          one.0,
          record {
            start = block.start;
            number = block.number;
            slab = slab_other block.start (no_slab block one.0) ∙ block.slab;
            below = block.below;
            is = block.is;
          },
        ))
        standing.stands;
  }

-- an extent comes

-- The granules of the new extent are vacant, in an exact image. A slab has a class, and no size of a large extent.
pub record IsExtentComing (b : Bounds) (t new : Tables) (start large : ℕ) (slab : Bool) : Type 0 where
  pub has : HasExtentAt t new start large slab
  pub exact : IsGcExact b t
  pub vacant : (k : ℕ) → start ≤ k → k < start + granules_at new start → IsVacant b t k
  pub some : 0 < granules_at new start
  pub one_kind : slab ≡ true → large ≡ 0
  pub classed : slab ≡ true → (new.header start).class < 36

module _ {b : Bounds} {t new : Tables} {start large : ℕ} {slab : Bool} (coming : IsExtentComing b t new start large slab) where
  abbrev it : HasExtentAt t new start large slab
  it = coming.has

  here : IsVacant b t start
  here = coming.vacant start (omega arith) (omega (arith, coming.some))

  pub no_slab : t.slab start ≡ false
  no_slab = false_from_ne_true (t.slab start) (λ is. here.none start (Covers-slab t start start is (omega arith) (omega arith)))

  pub no_large : t.large start ≡ 0
  no_large = ⊎_elim
      (λ (live : 0 < t.large start). absurd (here.none start (record { low = omega arith; high = omega (arith, live, granules_at-large t start no_slab) })))
      (λ (nothing : t.large start ≤ 0). omega arith)
      (cases_lt 0 (t.large start))

  slab_differ : (other : ℕ) → t.slab other ≡ true → other ≢ start
  slab_differ other is same = let none = no_slab in let here = ap t.slab (sym same) ∙ is in cc

  large_differ : (other : ℕ) → 0 < t.large other → other ≢ start
  large_differ other live same = omega (arith, live, ap t.large same, no_large)

  pub coming_off : IsOffLarge t start
  coming_off = record {
    each = λ root some none. large_differ (address_field (t.word root) / 16384) (⊎_elim
        (λ one. (is_large-parts t.large (address_field (t.word root)) one.1).1)
        (λ one. absurd (omega (arith, one.0, none)))
        (coming.exact.sound.owned.rooted root some).stands);
  }

  pub coming_heap : (root : ℕ) → gc_heap new root ≡ gc_heap t root
  coming_heap = gc_heap-extent it coming_off

  clash : (other k : ℕ) → other ≢ start → Covers new start k → ¬ (Covers new other k)
  clash other k differ first second = (coming.vacant k first.low (omega (arith, first.high))).none other (Covers-back it other k differ second)

  disjoint : (one other k : ℕ) → Covers new one k → Covers new other k → one ≡ other
  disjoint one other k first second = ⊎_elim
      (λ (same : one ≡ start). ⊎_elim
      (λ (too : other ≡ start). same ∙ sym too)
      (λ (differ : other ≢ start). absurd (clash other k differ (subst (λ s. Covers new s k) same first) second))
      (cases_eq other start))
      (λ (differ : one ≢ start). ⊎_elim
      (λ (same : other ≡ start). absurd (clash one k differ (subst (λ s. Covers new s k) same second) first))
      (λ (too : other ≢ start). coming.exact.sound.extents.disjoint one other k (Covers-back it one k differ first) (Covers-back it other k too second))
      (cases_eq other start))
      (cases_eq one start)

  abbrev count : ℕ
  count = granules_at new start

  extents_coming : AreExtents b new.large new.slab
  extents_coming = record {
    disjoint = disjoint;
    starts = λ other live. ⊎_elim
        (λ (same : other ≡ start).
        let last = (coming.vacant (start + count - 1) (omega (arith, coming.some)) (omega (arith, coming.some))).high in
        (omega (arith, same, here.low), omega (arith, same, last, coming.some, ap (granules_at new) same)))
        (λ (differ : other ≢ start).
        let size = granules_other it other differ in
        let was = coming.exact.sound.extents.starts other (omega (arith, live, size)) in
        (was.0, omega (arith, was.1, size)))
        (cases_eq other start);
    one_kind = λ other is. ⊎_elim
        (λ (same : other ≡ start). ap new.large same ∙ large_own it ∙ coming.one_kind (sym (slab_own it) ∙ ap new.slab (sym same) ∙ is))
        (λ (differ : other ≢ start). large_other it other differ ∙ coming.exact.sound.extents.one_kind other (sym (slab_other it other differ) ∙ is))
        (cases_eq other start);
  }

  classes_coming : (other : ℕ) → new.slab other ≡ true → (new.header other).class < 36
  classes_coming other is = ⊎_elim
      (λ (same : other ≡ start). omega (arith, ap (λ s. (new.header s).class) same, coming.classed (sym (slab_own it) ∙ ap new.slab (sym same) ∙ is)))
      (λ (differ : other ≢ start).
      let was = sym (slab_other it other differ) ∙ is in
      omega (arith, coming.has.class other differ was, coming.exact.sound.classes other was))
      (cases_eq other start)

  rooted_coming : (root : ℕ) → new.word root ≢ 0 → IsGcStanding new (new.word root)
  rooted_coming root some =
      let word = words it root in
      let was : t.word root ≢ 0 = λ none. some (word ∙ none) in
      subst (IsGcStanding new) (sym word) (standing_same it (t.word root)
      (λ none at. coming_off.each root was none (omega (arith, at)))
      (λ block small. slab_differ block.start block.slab)
      (coming.exact.sound.owned.rooted root was))

  named_coming : (other : ℕ) → other ≢ start → 0 < new.large other → (root : ℕ) × (new.root root ≡ 16384 * other)
  named_coming other differ live =
      let is = coming.exact.all_named other (omega (arith, live, large_other it other differ)) in
      (is.0, held it is.0 ∙ is.1)

  lives_coming : (other : ℕ) → other ≢ start → new.slab other ≡ true → (root : ℕ) × (new.root root ≢ 0) × IsInSlab new other (new.root root)
  lives_coming other differ slab =
      let is = coming.exact.all_live other (sym (slab_other it other differ) ∙ slab) in
      let at = held it is.0 in
      (is.0, λ none. is.1 (sym at ∙ none), subst (IsInSlab new other) (sym at) (IsInSlab-forth it other (t.root is.0) differ is.2))

  pub IsGcExactBut-coming : IsGcExactBut b new start
  IsGcExactBut-coming = record {
    sound = record {
      extents = extents_coming;
      classes = classes_coming;
      owned = record {
        rooted = rooted_coming;
        apart = λ root other range another differ first second.
            coming.exact.sound.owned.apart root other range another differ (sym (coming_heap root) ∙ first) (sym (coming_heap other) ∙ second);
      };
      loose = record {
        large = AtMostOne-one start (λ (s : ℕ) (loose : IsLooseLarge new s). ⊎_elim
            (λ (same : s ≡ start). same)
            (λ (differ : s ≢ start). absurd (let is = named_coming s differ loose.live in loose.unnamed is.0 is.1))
            (cases_eq s start));
        empty = AtMostOne-one start (λ (s : ℕ) (empty : IsEmptySlab new s). ⊎_elim
            (λ (same : s ≡ start). same)
            (λ (differ : s ≢ start). absurd (let is = lives_coming s differ empty.slab in empty.none is.0 is.1 is.2))
            (cases_eq s start));
      };
    };
    others_named = named_coming;
    others_live = lives_coming;
  }

-- an extent goes

-- The extent at a start goes, which is loose in a sound image.
pub record IsExtentGoing (b : Bounds) (t new : Tables) (start : ℕ) : Type 0 where
  pub has : HasExtentAt t new start 0 false
  pub sound : IsGcSound b t
  pub first : 0 < b.first
  pub held : (root : ℕ) → t.root root ≡ address_field (t.word root)
  pub loose : IsLooseLarge t start ⊎ IsEmptySlab t start

module _ {b : Bounds} {t new : Tables} {start : ℕ} (going : IsExtentGoing b t new start) where
  abbrev gone : HasExtentAt t new start 0 false
  gone = going.has

  -- nothing is left there

  none_left : granules_at new start ≡ 0
  none_left = granules_at-large new start (slab_own gone) ∙ large_own gone

  covers_differ : (other k : ℕ) → Covers new other k → other ≢ start
  covers_differ other k covers same = omega (arith, covers.low, covers.high, ap (granules_at new) same, none_left, same)

  some_differ : (other : ℕ) → 0 < granules_at new other → other ≢ start
  some_differ other some same = omega (arith, some, ap (granules_at new) same, none_left)

  slab_left : (other : ℕ) → new.slab other ≡ true → other ≢ start
  slab_left other is same = let none = slab_own gone in let here = ap new.slab (sym same) ∙ is in cc

  large_left : (other : ℕ) → 0 < new.large other → other ≢ start
  large_left other live same = omega (arith, live, ap new.large same, large_own gone)

  -- no root's block lay there

  pub going_off : IsOffLarge t start
  going_off = record {
    each = λ root some none at.
        let word = t.word root in
        let parts = is_large-parts t.large (address_field word) (⊎_elim (λ one. one.1) (λ one. absurd (omega (arith, one.0, none))) (going.sound.owned.rooted root some).stands) in
        ⊎_elim
        (λ loose. loose.unnamed root (omega (arith, going.held root, parts.0, at)))
        (λ empty. omega (arith, parts.1, ap t.large at, going.sound.extents.one_kind start empty.slab))
        going.loose;
  }

  no_block : (root : ℕ) → t.word root ≢ 0 → (block : IsClassBlock t.slab (class_field (t.word root) - 1) (address_field (t.word root))) → 0 < class_field (t.word root) → block.start ≢ start
  no_block root some block small same = ⊎_elim
      (λ loose. omega (arith, loose.live, ap t.large same, going.sound.extents.one_kind block.start block.slab))
      (λ empty.
      let inside = in_slab going.sound (omega (arith, small, (going.sound.owned.rooted root some).form.class)) block in
      let low = (going.sound.extents.starts block.start (omega (arith, Covers-granules block.start block.slab))).0 in
      let at = going.held root in
      empty.none root (λ none. omega (arith, none, at, inside.low, low, going.first))
      (record { slab = empty.slab; low = omega (arith, inside.low, at, same); high = omega (arith, inside.high, at, same) }))
      going.loose
    where
      Covers-granules : (s : ℕ) → t.slab s ≡ true → granules_at t s ≡ 4
      Covers-granules s is = ap (λ b. cond b 4 (t.large s)) is

  pub going_heap : (root : ℕ) → gc_heap new root ≡ gc_heap t root
  going_heap = gc_heap-extent gone going_off

  rooted_going : (root : ℕ) → new.word root ≢ 0 → IsGcStanding new (new.word root)
  rooted_going root some =
      let word = words gone root in
      let was : t.word root ≢ 0 = λ none. some (word ∙ none) in
      subst (IsGcStanding new) (sym word) (standing_same gone (t.word root)
      (λ none at. going_off.each root was none (omega (arith, at)))
      (no_block root was)
      (going.sound.owned.rooted root was))

  -- nothing comes to be loose

  pub loose_large-back : (other : ℕ) → IsLooseLarge new other → IsLooseLarge t other
  loose_large-back other loose = record {
    live = omega (arith, loose.live, large_other gone other (large_left other loose.live));
    unnamed = λ root is. loose.unnamed root (held gone root ∙ is);
  }

  pub empty_slab-back : (other : ℕ) → IsEmptySlab new other → IsEmptySlab t other
  empty_slab-back other empty =
      let differ = slab_left other empty.slab in
      record {
        slab = sym (slab_other gone other differ) ∙ empty.slab;
        none = λ root some inside.
            let at = held gone root in
            empty.none root (λ none. some (sym at ∙ none)) (subst (IsInSlab new other) (sym at) (IsInSlab-forth gone other (t.root root) differ inside));
      }

  pub IsGcSound-going : IsGcSound b new
  IsGcSound-going = record {
    extents = record {
      disjoint = λ one other k first second.
          going.sound.extents.disjoint one other k (Covers-back gone one k (covers_differ one k first) first) (Covers-back gone other k (covers_differ other k second) second);
      starts = λ other some.
          let size = granules_other gone other (some_differ other some) in
          let was = going.sound.extents.starts other (omega (arith, some, size)) in
          (was.0, omega (arith, was.1, size));
      one_kind = λ other is.
          let differ = slab_left other is in
          large_other gone other differ ∙ going.sound.extents.one_kind other (sym (slab_other gone other differ) ∙ is);
    };
    classes = λ other is.
        let differ = slab_left other is in
        let was = sym (slab_other gone other differ) ∙ is in
        omega (arith, going.has.class other differ was, going.sound.classes other was);
    owned = record {
      rooted = rooted_going;
      apart = λ root other range another differ first second.
          going.sound.owned.apart root other range another differ (sym (going_heap root) ∙ first) (sym (going_heap other) ∙ second);
    };
    loose = record {
      large = AtMostOne-fewer loose_large-back going.sound.loose.large;
      empty = AtMostOne-fewer empty_slab-back going.sound.loose.empty;
    };
  }

  -- where nothing but it may have been loose, nothing is
  pub IsGcExact-gone : IsGcExactBut b t start → IsGcExact b new
  IsGcExact-gone but = record {
    sound = IsGcSound-going;
    all_named = λ other live.
        let differ = large_left other live in
        let is = but.others_named other differ (omega (arith, live, large_other gone other differ)) in
        (is.0, held gone is.0 ∙ is.1);
    all_live = λ other slab.
        let differ = slab_left other slab in
        let is = but.others_live other differ (sym (slab_other gone other differ) ∙ slab) in
        let at = held gone is.0 in
        (is.0, λ none. is.1 (sym at ∙ none), subst (IsInSlab new other) (sym at) (IsInSlab-forth gone other (t.root is.0) differ is.2));
  }
