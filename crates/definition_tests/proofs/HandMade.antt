-- A check of the definitions by hand: an image with one large block and one small block is exact, and has both.
--
-- In an arena of 16 granules root 0 names two granules from granule 4 on, and root 5 names block 0 of a slab of class 6,
-- of blocks of 112 bytes, at granule 6.
use Rattle.std.proofs.Common.{◌≡◌, ◌≢◌, ◌⊎◌, ℕ, ◌+◌, Some, None, sym, ◌∙◌, refl, arith, subst, inl, inr, ⊎_elim}
use Rattle.std.proofs.lemmas.Bool.{cases_eq, ne_eqb}
use Rattle.size_classes.specs.Classes.{class_size, sizes}
use Rattle.image_tables.specs.Tables.{Tables}
use Rattle.heap_model.specs.Machine.{Range, AreApart, slab_block}
use Rattle.heap_check.specs.Heap.{heap, slab_of, is_old_of, is_large, IsClaim}
use Rattle.heap_check.specs.Sound.{IsStanding, IsExact}
use Rattle.definition_tests.proofs.HandMadeParts.{only, bounds, HasExtents, no_claim, HasBlocks, exact_by}
use Rattle.definition_tests.proofs.HandMadeBlock.{tables, extents, slab_valid, Holds-block, held_is}

words_of : ℕ → ℕ
words_of r = only 0 65536 r + only 5 100352 r

image : Tables
image = tables 6 2 words_of None

abbrev small_block : Range
small_block = slab_block 6 6 0

image_extents : HasExtents image 6 2
unfolding image
image_extents = extents 6 2 words_of None (omega arith) (omega arith)

-- which roots have a word
roots_of : (r : ℕ) → (r ≡ 0) ⊎ ((r ≡ 5) ⊎ (image.root r ≡ 0))
unfolding image tables words_of
roots_of r = ⊎_elim
    (λ (first : r ≡ 0). inl first)
    (λ (no_first : r ≢ 0). inr (⊎_elim (λ (second : r ≡ 5). inl second) (λ (no_second : r ≢ 5). inr (rw (ne_eqb r 0 no_first, ne_eqb r 5 no_second) refl)) (cases_eq r 5)))
    (cases_eq r 0)

large_claim : (range : Range) → IsClaim image 0 range → (range.at ≡ 65536) × (range.size ≡ 32768)
unfolding image tables words_of is_large
large_claim range claim = (sym claim.place, sym claim.wide)

small_claim : (range : Range) → IsClaim image 5 range → (range.at ≡ 100352) × (range.size ≡ 112)
unfolding image tables words_of is_large slab_of is_old_of class_size sizes
small_claim range claim = (sym claim.place, sym claim.wide)

claims_of : (r : ℕ) (range : Range) → IsClaim image r range → ((r ≡ 0) × (range.at ≡ 65536) × (range.size ≡ 32768)) ⊎ ((r ≡ 5) × (range.at ≡ 100352) × (range.size ≡ 112))
unfolding image tables
claims_of r range claim = ⊎_elim
    (λ first. let is = large_claim range (subst (λ k. IsClaim image k range) first claim) in inl (first, is.0, is.1))
    (λ rest. ⊎_elim
    (λ second. let is = small_claim range (subst (λ k. IsClaim image k range) second claim) in inr (second, is.0, is.1))
    (λ none. absurd (no_claim image r range none refl claim))
    rest)
    (roots_of r)

apart : (root other : ℕ) (range another : Range) → root ≢ other → IsClaim image root range → IsClaim image other another → AreApart range another
apart root other range another differ first second = ⊎_elim
    (λ large. ⊎_elim (λ same. absurd (differ (large.0 ∙ sym same.0))) (λ small. inl (omega (arith, large.1, large.2, small.1))) (claims_of other another second))
    (λ small. ⊎_elim (λ large. inr (omega (arith, large.1, large.2, small.1))) (λ same. absurd (differ (small.0 ∙ sym same.0))) (claims_of other another second))
    (claims_of root range first)

-- the small block is root 5's
its_claim : IsClaim image 5 small_block
unfolding image tables words_of is_large slab_of is_old_of class_size sizes
its_claim = record { some = omega arith; place = refl; wide = refl }

-- each root stands where a block may

stands_0 : IsStanding image 0 (image.root 0)
unfolding image tables words_of is_large
stands_0 = inl refl

stands_5 : IsStanding image 5 (image.root 5)
unfolding image tables words_of class_size sizes
stands_5 = inr (inl (record { start = 6; range = small_block; holds = Holds-block 6 2 words_of None; here = refl }))

stands : (r : ℕ) → image.root r ≢ 0 → IsStanding image r (image.root r)
stands r some = ⊎_elim
    (λ first. subst (λ k. IsStanding image k (image.root k)) (sym first) stands_0)
    (λ rest. ⊎_elim (λ second. subst (λ k. IsStanding image k (image.root k)) (sym second) stands_5) (λ none. absurd (some none)) rest)
    (roots_of r)

-- the image is exact
hand_made_exact : IsExact bounds image
unfolding image tables words_of
hand_made_exact =
    let blocks : HasBlocks image 6 = record {
      slab = slab_valid 6 2 words_of None;
      open_entry = λ e is. absurd (cc is);
      rooted = stands;
      apart = apart;
      claimed = λ range holds. (5, subst (IsClaim image 5) (sym (held_is 6 2 words_of None range holds)) its_claim);
    } in
    exact_by image_extents blocks refl refl 5 (omega arith) (record { slab = refl; low = omega arith; high = omega arith }) (omega arith) (λ done. omega (arith, done.kind))

-- its heap has both blocks
both_blocks : (heap image 0 ≡ Some (record { at = 65536; size = 32768 })) × (heap image 5 ≡ Some (record { at = 100352; size = 112 }))
unfolding image tables words_of is_large slab_of is_old_of class_size sizes
both_blocks = (refl, refl)
