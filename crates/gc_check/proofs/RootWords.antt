-- A root's word comes, or goes: the image stays sound, with the heap that it has then, and is exact at the end that has the block.
use Rattle.std.proofs.Common.{◌≡◌, ◌≢◌, ◌⊎◌, ◌==◌, ℕ, ◌-◌, ◌*◌, ◌/◌, ◌<◌, ◌≤◌, true, cond, refl, sym, ap, subst, ◌∙◌, arith, inl, inr, ⊎_elim, Some, None}
use Rattle.std.proofs.lemmas.Bool.{cases_eq, false_from_ne_true}
use Rattle.size_classes.proofs.Spacing.{class_size-least}
use Rattle.image_tables.specs.Tables.{SlabHeader, Tables}
use Rattle.image_tables.specs.Updates.{put_at}
use Rattle.image_tables.proofs.Updates.{put_at-same, put_at-other}
use Rattle.heap_model.specs.Machine.{Bounds, Range, AreApart, slab_block}
use Rattle.heap_model.proofs.Slabbing.{LiesIn-block}
use Rattle.heap_check.specs.Sound.{granules_at, Covers, IsInSlab, IsLooseLarge, IsEmptySlab, HasOther}
use Rattle.heap_check.proofs.Geometry.{granules_at-slab, granules_at-large, Covers-slab, is_large-parts}
use Rattle.heap_check.proofs.Loose.{AtMostOne-none, AtMostOne-one}
use Rattle.gc_check.specs.Heap.{address_field, class_field, gc_block, gc_heap}
use Rattle.gc_check.specs.Sound.{IsClassBlock, IsGcStanding, IsExtentOf, IsGcSound, IsGcExact, IsGcExactBut}
use Rattle.heap_check.specs.State.{IsWordOf}
use Rattle.gc_check.proofs.Heaps.{size_large, size_small, IsNamed-heap}

-- the tables once a root has this word
abbrev pub with_word : Tables → ℕ → ℕ → Tables
with_word t root word = record t { word = put_at t.word root word; root = λ r. address_field (put_at t.word root word r) }

module _ (t : Tables) (root word : ℕ) where
  pub word-own : (with_word t root word).word root ≡ word
  word-own = put_at-same t.word root word

  pub word-other : (other : ℕ) → other ≢ root → (with_word t root word).word other ≡ t.word other
  word-other other differ = put_at-other t.word root other word differ

  heap-other : (other : ℕ) → other ≢ root → gc_heap (with_word t root word) other ≡ gc_heap t other
  heap-other other differ = ap (λ w. cond (w == 0) None (Some (gc_block t.large w))) (word-other other differ)

  heap-own : gc_heap (with_word t root word) root ≡ cond (word == 0) None (Some (gc_block t.large word))
  heap-own = ap (λ w. cond (w == 0) None (Some (gc_block t.large w))) word-own

-- where the block of a word lies

module _ {b : Bounds} {t : Tables} (sound : IsGcSound b t) where
  -- a live large extent has its granules
  pub whole : (own : ℕ) → 0 < t.large own → granules_at t own ≡ t.large own
  whole own live = granules_at-large t own (false_from_ne_true (t.slab own) (λ slab. omega (arith, live, sound.extents.one_kind own slab)))

  -- live extents begin behind the first granule of the heap
  starts_high : (start : ℕ) → 0 < t.large start → b.first ≤ start
  starts_high start live = (sound.extents.starts start (omega (arith, live, whole start live))).0

  pub in_slab : {class at : ℕ} → class < 36 → (block : IsClassBlock t.slab class at) → IsInSlab t block.start at
  in_slab {class} {at} is_class block =
      let lies = LiesIn-block block.start class (slab_block block.start class block.number) (record { number = block.number; within = block.below; is = refl }) in
      record { slab = block.slab; low = omega (arith, lies.low, block.is); high = omega (arith, lies.high, block.is, class_size-least class is_class) }

  -- an address in a slab lies in no other extent
  slab_is : (one start at : ℕ) → IsInSlab t one at → Covers t start (at / 16384) → one ≡ start
  slab_is one start at inside its =
      sound.extents.disjoint one start (at / 16384) (Covers-slab t one (at / 16384) inside.slab (omega (arith, inside.low)) (omega (arith, inside.high))) its

  -- nor does one at which a large extent starts
  large_is : (own start : ℕ) → 0 < t.large own → Covers t start own → own ≡ start
  large_is own start live its = sound.extents.disjoint own start own (record { low = omega arith; high = omega (arith, whole own live, live) }) its

  -- it begins its large extent, or lies in its slab
  pub placed : (word start : ℕ) → IsGcStanding t word → IsExtentOf t word start → ((0 < t.large start) × (address_field word ≡ 16384 * start)) ⊎ IsInSlab t start (address_field word)
  placed word start standing its =
      let at = address_field word in
      ⊎_elim
      (λ large. let parts = is_large-parts t.large at large.1 in inl (subst (λ s. (0 < t.large s) × (at ≡ 16384 * s)) (large_is (at / 16384) start parts.1 its) (parts.1, parts.0)))
      (λ small. let inside = in_slab (omega (arith, small.0, standing.form.class)) small.1 in inr (subst (λ s. IsInSlab t s at) (slab_is small.1.start start at inside its) inside))
      standing.stands

  -- a block of the heap lies in the heap
  pub block_low : (root : ℕ) (range : Range) → gc_heap t root ≡ Some range → 16384 * b.first ≤ range.at
  block_low root range block =
      let is = IsNamed-heap t root range block in
      let standing = sound.owned.rooted root is.some in
      let at = ap (λ (r : Range). r.at) is.is in
      ⊎_elim
      (λ large. let parts = is_large-parts t.large (address_field (t.word root)) large.1 in omega (arith, at, parts.0, starts_high (address_field (t.word root) / 16384) parts.1))
      (λ small.
      let inside = in_slab (omega (arith, small.0, standing.form.class)) small.1 in
      omega (arith, at, inside.low, sound.extents.starts small.1.start (omega (arith, granules_at-slab t small.1.start inside.slab))))
      standing.stands

  -- nor is a word of it the state word of a slab
  pub block_off_state : (root start k : ℕ) (range : Range) → gc_heap t root ≡ Some range → t.slab start ≡ true → IsWordOf range k → k ≢ 2048 * start
  block_off_state root start k range block slab word same =
      let is = IsNamed-heap t root range block in
      let standing = sound.owned.rooted root is.some in
      let at = ap (λ (r : Range). r.at) is.is in
      let size = ap (λ (r : Range). r.size) is.is in
      let own = address_field (t.word root) / 16384 in
      let here = Covers-slab t start start slab (omega arith) (omega arith) in
      ⊎_elim
      (λ large.
      let parts = is_large-parts t.large (address_field (t.word root)) large.1 in
      let wide = size_large t.large (t.word root) large.0 in
      let granules = whole own parts.1 in
      let apart = sound.extents.disjoint own start start (record { low = omega (arith, word.low, at, parts.0, same); high = omega (arith, word.high, at, size, wide, parts.0, granules, same) }) here in
      omega (arith, parts.1, ap t.large apart, sound.extents.one_kind start slab))
      (λ small.
      let class = class_field (t.word root) - 1 in
      let b = small.1 in
      let wide = size_small t.large (t.word root) small.0 in
      let lies = LiesIn-block b.start class (slab_block b.start class b.number) (record { number = b.number; within = b.below; is = refl }) in
      let low : b.start < start = omega (arith, word.low, at, b.is, same) in
      let apart = sound.extents.disjoint b.start start start (Covers-slab t b.start start b.slab (omega arith) (omega (arith, word.high, at, size, wide, b.is, lies.high, same))) here in
      omega (arith, apart, low))
      standing.stands

-- a slab has another class

pub IsGcExact-class : {b : Bounds} {t : Tables} (header : ℕ → SlabHeader) → IsGcExact b t → ((start : ℕ) → t.slab start ≡ true → (header start).class < 36) → IsGcExact b (record t { header = header })
IsGcExact-class {b} {t} header exact classes = record {
  sound = record {
    extents = exact.sound.extents;
    classes = classes;
    owned = record { rooted = exact.sound.owned.rooted; apart = exact.sound.owned.apart };
    loose = record { large = exact.sound.loose.large; empty = exact.sound.loose.empty };
  };
  all_named = exact.all_named;
  all_live = exact.all_live;
}

-- a word comes

-- A root without a word may get this one: its block may stand where it says, apart from all others, in an extent that alone may
-- have no root's block.
pub record IsComing (b : Bounds) (t : Tables) (root word start : ℕ) : Type 0 where
  pub but : IsGcExactBut b t start
  pub first : 0 < b.first
  pub held : (r : ℕ) → t.root r ≡ address_field (t.word r)
  pub none : t.word root ≡ 0
  pub standing : IsGcStanding t word
  pub its : IsExtentOf t word start
  pub apart : (other : ℕ) (range : Range) → gc_heap t other ≡ Some range → AreApart range (gc_block t.large word)

turned : (range another : Range) → AreApart range another → AreApart another range
turned range another apart = ⊎_elim (λ before. inr before) (λ behind. inl behind) apart

module _ {b : Bounds} {t : Tables} {root word start : ℕ} (coming : IsComing b t root word start) where
  abbrev new : Tables
  new = with_word t root word

  held_own : new.root root ≡ address_field word
  held_own = ap address_field (word-own t root word)

  held_other : (other : ℕ) → other ≢ root → new.root other ≡ t.root other
  held_other other differ = ap address_field (word-other t root word other differ) ∙ sym (coming.held other)

  held_none : t.root root ≡ 0
  held_none = coming.held root ∙ ap address_field coming.none

  all_named : (other : ℕ) → 0 < t.large other → (r : ℕ) × (new.root r ≡ 16384 * other)
  all_named other live = ⊎_elim
      (λ (same : other ≡ start). ⊎_elim
      (λ large. (root, held_own ∙ large.1 ∙ ap (λ s. 16384 * s) (sym same)))
      (λ inside. absurd (omega (arith, live, ap t.large same, coming.but.sound.extents.one_kind start inside.slab)))
      (placed coming.but.sound word start coming.standing coming.its))
      (λ (differ : other ≢ start).
      let is = coming.but.others_named other differ live in
      (is.0, held_other is.0 (λ own. omega (arith, is.1, ap t.root own, held_none, starts_high coming.but.sound other live, coming.first)) ∙ is.1))
      (cases_eq other start)

  all_live : (other : ℕ) → t.slab other ≡ true → (r : ℕ) × (new.root r ≢ 0) × IsInSlab new other (new.root r)
  all_live other slab = ⊎_elim
      (λ (same : other ≡ start). ⊎_elim
      (λ large. absurd (omega (arith, large.0, coming.but.sound.extents.one_kind start (ap t.slab (sym same) ∙ slab))))
      (λ inside.
      let at = held_own in
      let low = (coming.but.sound.extents.starts start (omega (arith, granules_at-slab t start inside.slab))).0 in
      (root, λ none. omega (arith, none, at, inside.low, low, coming.first), record { slab = slab; low = omega (arith, inside.low, at, same); high = omega (arith, inside.high, at, same) }))
      (placed coming.but.sound word start coming.standing coming.its))
      (λ (differ : other ≢ start).
      let is = coming.but.others_live other differ slab in
      let at = held_other is.0 (λ own. is.1 (ap t.root own ∙ held_none)) in
      (is.0, λ none. is.1 (sym at ∙ none), record { slab = slab; low = omega (arith, is.2.low, at); high = omega (arith, is.2.high, at) }))
      (cases_eq other start)

  was : (other : ℕ) (range : Range) → other ≢ root → gc_heap new other ≡ Some range → gc_heap t other ≡ Some range
  was other range differ block = sym (heap-other t root word other differ) ∙ block

  own_block : (range : Range) → gc_heap new root ≡ Some range → range ≡ gc_block t.large word
  own_block range block = let is = IsNamed-heap new root range block in is.is ∙ ap (gc_block t.large) (word-own t root word)

  apart : (one other : ℕ) (range another : Range) → one ≢ other → gc_heap new one ≡ Some range → gc_heap new other ≡ Some another → AreApart range another
  apart one other range another differ first second = ⊎_elim
      (λ (own : one ≡ root).
      let is = own_block range (subst (λ r. gc_heap new r ≡ Some range) own first) in
      let apart = coming.apart other another (was other another (λ same. differ (own ∙ sym same)) second) in
      turned another range (subst (AreApart another) (sym is) apart))
      (λ (one_other : one ≢ root). ⊎_elim
      (λ (own : other ≡ root).
      let is = own_block another (subst (λ r. gc_heap new r ≡ Some another) own second) in
      subst (AreApart range) (sym is) (coming.apart one range (was one range one_other first)))
      (λ (other_other : other ≢ root). coming.but.sound.owned.apart one other range another differ (was one range one_other first) (was other another other_other second))
      (cases_eq other root))
      (cases_eq one root)

  rooted : (r : ℕ) → new.word r ≢ 0 → IsGcStanding new (new.word r)
  rooted r some = ⊎_elim
      (λ (own : r ≡ root). subst (IsGcStanding t) (sym (ap new.word own ∙ word-own t root word)) coming.standing)
      (λ (other : r ≢ root).
      let is = word-other t root word r other in
      subst (IsGcStanding t) (sym is) (coming.but.sound.owned.rooted r (λ none. some (is ∙ none))))
      (cases_eq r root)

  pub IsGcExact-coming : IsGcExact b (with_word t root word)
  IsGcExact-coming = record {
    sound = record {
      extents = coming.but.sound.extents;
      classes = coming.but.sound.classes;
      owned = record { rooted = rooted; apart = apart };
      loose = record {
        large = AtMostOne-none (λ (s : ℕ) (loose : IsLooseLarge new s). let is = all_named s loose.live in loose.unnamed is.0 is.1);
        empty = AtMostOne-none (λ (s : ℕ) (empty : IsEmptySlab new s). let is = all_live s empty.slab in empty.none is.0 is.1 is.2);
      };
    };
    all_named = all_named;
    all_live = all_live;
  }

-- a word goes

-- A root has a word, whose block lies in an extent.
pub record IsGoing (b : Bounds) (t : Tables) (root start : ℕ) : Type 0 where
  pub exact : IsGcExact b t
  pub held : (r : ℕ) → t.root r ≡ address_field (t.word r)
  pub some : t.word root ≢ 0
  pub its : IsExtentOf t (t.word root) start

module _ {b : Bounds} {t : Tables} {root start : ℕ} (going : IsGoing b t root start) where
  abbrev less : Tables
  less = with_word t root 0

  still_held : (other : ℕ) → other ≢ root → less.root other ≡ t.root other
  still_held other differ = ap address_field (word-other t root 0 other differ) ∙ sym (going.held other)

  -- the root names no other large extent, and has no block in another slab

  not_named : (other : ℕ) → other ≢ start → 0 < t.large other → t.root root ≢ 16384 * other
  not_named other differ live same =
      let at : address_field (t.word root) / 16384 ≡ other = omega (arith, going.held root, same) in
      differ (large_is going.exact.sound other start live (subst (Covers t start) at going.its))

  not_inside : (other : ℕ) → other ≢ start → ¬ (IsInSlab t other (t.root root))
  not_inside other differ inside =
      let at = going.held root in
      differ (slab_is going.exact.sound other start (address_field (t.word root)) (record { slab = inside.slab; low = omega (arith, inside.low, at); high = omega (arith, inside.high, at) }) going.its)

  others_named : (other : ℕ) → other ≢ start → 0 < t.large other → (r : ℕ) × (less.root r ≡ 16384 * other)
  others_named other differ live =
      let is = going.exact.all_named other live in
      (is.0, still_held is.0 (λ own. not_named other differ live (ap t.root (sym own) ∙ is.1)) ∙ is.1)

  others_live : (other : ℕ) → other ≢ start → t.slab other ≡ true → (r : ℕ) × (less.root r ≢ 0) × IsInSlab less other (less.root r)
  others_live other differ slab =
      let is = going.exact.all_live other slab in
      let at = still_held is.0 (λ own. not_inside other differ (subst (λ r. IsInSlab t other (t.root r)) own is.2)) in
      (is.0, λ none. is.1 (sym at ∙ none), record { slab = slab; low = omega (arith, is.2.low, at); high = omega (arith, is.2.high, at) })

  other_word : (r : ℕ) → less.word r ≢ 0 → r ≢ root
  other_word r some own = some (ap less.word own ∙ word-own t root 0)

  other_block : (r : ℕ) (range : Range) → gc_heap less r ≡ Some range → gc_heap t r ≡ Some range
  other_block r range block = let is = IsNamed-heap less r range block in sym (heap-other t root 0 r (other_word r is.some)) ∙ block

  pub IsGcExactBut-going : IsGcExactBut b (with_word t root 0) start
  IsGcExactBut-going = record {
    sound = record {
      extents = going.exact.sound.extents;
      classes = going.exact.sound.classes;
      owned = record {
        rooted = λ r some.
            let is = word-other t root 0 r (other_word r some) in
            subst (IsGcStanding t) (sym is) (going.exact.sound.owned.rooted r (λ none. some (is ∙ none)));
        apart = λ one other range another differ first second. going.exact.sound.owned.apart one other range another differ (other_block one range first) (other_block other another second);
      };
      loose = record {
        large = AtMostOne-one start (λ (s : ℕ) (loose : IsLooseLarge less s). ⊎_elim
            (λ (same : s ≡ start). same)
            (λ (differ : s ≢ start). absurd (let is = others_named s differ loose.live in loose.unnamed is.0 is.1))
            (cases_eq s start));
        empty = AtMostOne-one start (λ (s : ℕ) (empty : IsEmptySlab less s). ⊎_elim
            (λ (same : s ≡ start). same)
            (λ (differ : s ≢ start). absurd (let is = others_live s differ empty.slab in empty.none is.0 is.1 is.2))
            (cases_eq s start));
      };
    };
    others_named = others_named;
    others_live = others_live;
  }

  -- where another root has a block in that slab, the image is exact still
  pub IsGcExact-going : HasOther t root start → IsGcExact b (with_word t root 0)
  IsGcExact-going has =
      let at = still_held has.other has.differ in
      let inside : IsInSlab less start (less.root has.other) = record { slab = has.inside.slab; low = omega (arith, has.inside.low, at); high = omega (arith, has.inside.high, at) } in
      record {
        sound = IsGcExactBut-going.sound;
        all_named = λ other live. ⊎_elim
            (λ (same : other ≡ start). absurd (omega (arith, live, ap t.large same, going.exact.sound.extents.one_kind start has.inside.slab)))
            (λ (differ : other ≢ start). others_named other differ live)
            (cases_eq other start);
        all_live = λ other slab. ⊎_elim
            (λ (same : other ≡ start). (has.other, (λ none. has.some (sym at ∙ none)), subst (λ s. IsInSlab less s (less.root has.other)) (sym same) inside))
            (λ (differ : other ≢ start). others_live other differ slab)
            (cases_eq other start);
      }

-- the block of a root lies in an extent
pub extent_of : {b : Bounds} {t : Tables} → IsGcSound b t → (root : ℕ) → t.word root ≢ 0 → (start : ℕ) × IsExtentOf t (t.word root) start
extent_of {b} {t} sound root some =
    let standing = sound.owned.rooted root some in
    let at = address_field (t.word root) in
    ⊎_elim
    (λ large. let parts = is_large-parts t.large at large.1 in (at / 16384, record { low = omega arith; high = omega (arith, whole sound (at / 16384) parts.1, parts.1) }))
    (λ small.
    let inside = in_slab sound (omega (arith, small.0, standing.form.class)) small.1 in
    (small.1.start, Covers-slab t small.1.start (at / 16384) inside.slab (omega (arith, inside.low)) (omega (arith, inside.high))))
    standing.stands
