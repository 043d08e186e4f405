-- A check of the definitions of the GC variant by hand: an image with two small blocks of different classes, in a slab that has a
-- third, is exact, and has both with the sizes that the roots' words say.
--
-- In an arena of 16 granules a slab of class 6 begins at granule 4. Root 1 names block 0 of class 2 in it, of 48 bytes, and root 2
-- block 1 of class 3, of 64 bytes.
use Rattle.std.proofs.Common.{◌≡◌, ◌≢◌, ◌⊎◌, ◌==◌, ℕ, ◌+◌, ◌^◌, ◌<◌, Some, None, true, false, sym, ap, ◌∙◌, refl, arith, subst, inl, inr, ⊎_elim}
use Rattle.std.proofs.lemmas.Bool.{cases_eq, ne_eqb}
use Rattle.size_classes.specs.Classes.{class_size, sizes}
use Rattle.image_tables.specs.Tables.{Tables}
use Rattle.heap_model.specs.Machine.{Range, AreApart}
use Rattle.gc_check.specs.Heap.{address_field, gc_size, IsGcRootWord, small_word, gc_heap}
use Rattle.gc_check.specs.Sound.{IsGcStanding, IsGcExact}
use Rattle.gc_check.proofs.Heaps.{IsNamed-heap}
use Rattle.definition_tests.proofs.HandMadeParts.{only, bounds, HasExtents, extents_by, one_slab}

-- root words

-- the greatest class has the field 36
greatest_class : IsGcRootWord (small_word 67584 35)
greatest_class = record { few = omega arith; class = omega arith }

no_class : ¬ (IsGcRootWord (small_word 67584 36))
no_class is = omega (arith, is.class)

no_such_bit : ¬ (IsGcRootWord (67584 + 2 ^ 40))
no_such_bit is = omega (arith, is.few)

-- a word without a class is that of a large block
large_size : gc_size (λ start. 3) 65536 ≡ 49152
large_size = refl

-- the image

first_word : ℕ
first_word = small_word 67584 2

second_word : ℕ
second_word = small_word 67648 3

words_of : ℕ → ℕ
words_of r = only 1 first_word r + only 2 second_word r

image : Tables
image = record {
  word = words_of;
  root = λ r. address_field (words_of r);
  open_entry = None;
  large = λ g. 0;
  slab = λ g. g == 4;
  header = λ g. record { kind = 1; class = 6; old = 0; index_count = 0; bit = λ i. false; live = λ p. false; number = λ p. 0 };
}

image_extents : HasExtents image 4 0
unfolding image
image_extents = record { slab = λ g. refl; large = λ g. ⊎_elim (λ (here : g ≡ 4). rw here refl) (λ (other : g ≢ 4). rw (ne_eqb g 4 other) refl) (cases_eq g 4); before = omega arith; behind = omega arith }

-- which roots have a word
roots_of : (r : ℕ) → (r ≡ 1) ⊎ ((r ≡ 2) ⊎ (image.word r ≡ 0))
unfolding image words_of
roots_of r = ⊎_elim
    (λ (first : r ≡ 1). inl first)
    (λ (no_first : r ≢ 1). inr (⊎_elim (λ (second : r ≡ 2). inl second) (λ (no_second : r ≢ 2). inr (rw (ne_eqb r 1 no_first, ne_eqb r 2 no_second) refl)) (cases_eq r 2)))
    (cases_eq r 1)

-- their blocks

first_block : gc_heap image 1 ≡ Some (record { at = 67584; size = 48 })
unfolding image words_of first_word second_word class_size sizes
first_block = refl

second_block : gc_heap image 2 ≡ Some (record { at = 67648; size = 64 })
unfolding image words_of first_word second_word class_size sizes
second_block = refl

its_block : (root : ℕ) (own : Range) → gc_heap image root ≡ Some own → (r : ℕ) (range : Range) → r ≡ root → gc_heap image r ≡ Some range → (range.at ≡ own.at) × (range.size ≡ own.size)
its_block root own has r range same block =
    let both : Some own ≡ Some range = sym has ∙ subst (λ k. gc_heap image k ≡ Some range) same block in
    let is : own ≡ range = cc in
    (ap (λ (x : Range). x.at) (sym is), ap (λ (x : Range). x.size) (sym is))

blocks_of : (r : ℕ) (range : Range) → gc_heap image r ≡ Some range → ((r ≡ 1) × (range.at ≡ 67584) × (range.size ≡ 48)) ⊎ ((r ≡ 2) × (range.at ≡ 67648) × (range.size ≡ 64))
blocks_of r range block = ⊎_elim
    (λ first. let is = its_block 1 (record { at = 67584; size = 48 }) first_block r range first block in inl (first, is.0, is.1))
    (λ rest. ⊎_elim
    (λ second. let is = its_block 2 (record { at = 67648; size = 64 }) second_block r range second block in inr (second, is.0, is.1))
    (λ none. absurd ((IsNamed-heap image r range block).some none))
    rest)
    (roots_of r)

apart : (root other : ℕ) (range another : Range) → root ≢ other → gc_heap image root ≡ Some range → gc_heap image other ≡ Some another → AreApart range another
apart root other range another differ block second = ⊎_elim
    (λ first. ⊎_elim (λ same. absurd (differ (first.0 ∙ sym same.0))) (λ next. inl (omega (arith, first.1, first.2, next.1))) (blocks_of other another second))
    (λ next. ⊎_elim (λ first. inr (omega (arith, first.1, first.2, next.1))) (λ same. absurd (differ (next.0 ∙ sym same.0))) (blocks_of other another second))
    (blocks_of root range block)

-- each root's word says a block of the slab

stands_1 : IsGcStanding image (image.word 1)
unfolding image words_of first_word second_word class_size sizes
stands_1 = record {
  form = record { few = omega arith; class = omega arith };
  stands = inr (omega arith, record { start = 4; number = 0; slab = refl; below = omega arith; is = refl });
}

stands_2 : IsGcStanding image (image.word 2)
unfolding image words_of first_word second_word class_size sizes
stands_2 = record {
  form = record { few = omega arith; class = omega arith };
  stands = inr (omega arith, record { start = 4; number = 1; slab = refl; below = omega arith; is = refl });
}

stands : (r : ℕ) → image.word r ≢ 0 → IsGcStanding image (image.word r)
stands r some = ⊎_elim
    (λ first. subst (λ k. IsGcStanding image (image.word k)) (sym first) stands_1)
    (λ rest. ⊎_elim (λ second. subst (λ k. IsGcStanding image (image.word k)) (sym second) stands_2) (λ none. absurd (some none)) rest)
    (roots_of r)

none_large : (g : ℕ) → image.large g ≡ 0
unfolding image
none_large g = refl

slab_class : (g : ℕ) → (image.header g).class < 36
unfolding image
slab_class g = omega arith

root_1 : image.root 1 ≡ 67584
unfolding image words_of first_word second_word
root_1 = refl

slab_4 : (g : ℕ) → g ≡ 4 → image.slab g ≡ true
unfolding image
slab_4 g is = rw is refl

slab_is : (g : ℕ) → image.slab g ≡ true → g ≡ 4
slab_is g slab = one_slab image_extents g 4 slab (slab_4 4 refl)

image_exact : IsGcExact bounds image
image_exact = record {
  sound = record {
    extents = extents_by image_extents;
    classes = λ g slab. slab_class g;
    owned = record { rooted = stands; apart = apart };
    loose = record {
      large = record { same = λ one other first second. absurd (omega (arith, first.live, none_large one)) };
      empty = record { same = λ one other first second. one_slab image_extents one other first.slab second.slab };
    };
  };
  all_named = λ g live. absurd (omega (arith, live, none_large g));
  all_live = λ g slab. (1, λ none. omega (arith, none, root_1), record { slab = slab; low = omega (arith, root_1, slab_is g slab); high = omega (arith, root_1, slab_is g slab) });
}
