-- A check of the definitions by hand: an image in which a block moves from one root to another is steady, and the root
-- that it moves to has the block, alone.
--
-- In an arena of 16 granules a slab of class 6, of blocks of 112 bytes, is at granule 4. Roots 5 and 9 both have the word
-- of its block 0, and an open entry moves it from root 5 to root 9: so root 5 is not held.
use Rattle.std.proofs.Common.{◌≡◌, ◌≢◌, ℕ, ◌+◌, Some, None, refl, sym, ap, ◌∙◌, arith, subst, inl, inr, ⊎_elim}
use Rattle.std.proofs.lemmas.Bool.{cases_eq, ne_eqb}
use Rattle.size_classes.specs.Classes.{class_size, sizes}
use Rattle.image_tables.specs.declared.entry.WalEntry.{WalEntry}
use Rattle.image_tables.specs.declared.entry.WalEntry.TheVariants.{Move}
use Rattle.image_tables.specs.Tables.{Tables}
use Rattle.heap_model.specs.Machine.{Range, slab_block}
use Rattle.heap_check.specs.Heap.{slab_of, is_old_of, is_large, heap, IsClaim}
use Rattle.heap_check.specs.Sound.{IsOpen, IsStanding, IsSteady}
use Rattle.heap_check.proofs.Heaps.{heap-none}
use Rattle.definition_tests.proofs.HandMadeParts.{only, bounds, HasExtents, no_claim, slab_is, steady_by}
use Rattle.definition_tests.proofs.HandMadeBlock.{tables, extents, slab_valid, Holds-block, held_is}

abbrev entry : WalEntry
entry = Move 5 9

words_of : ℕ → ℕ
words_of r = only 5 67584 r + only 9 67584 r

image : Tables
image = tables 4 0 words_of (Some entry)

abbrev block : Range
block = slab_block 4 6 0

image_extents : HasExtents image 4 0
unfolding image
image_extents = extents 4 0 words_of (Some entry) (omega arith) (omega arith)

-- both roots have the word, and root 9 alone is held
both_words : (image.word 5 ≡ 67584) × (image.word 9 ≡ 67584) × (image.root 5 ≡ 0) × (image.root 9 ≡ 67584)
unfolding image tables words_of
both_words = (refl, refl, refl, refl)

others_none : (r : ℕ) → r ≢ 9 → image.root r ≡ 0
unfolding image tables words_of
others_none r other = ⊎_elim
    (λ (from : r ≡ 5). ap image.root from)
    (λ (neither : r ≢ 5). rw (ne_eqb r 5 neither, ne_eqb r 9 other) refl)
    (cases_eq r 5)

stands : (r : ℕ) → image.root r ≢ 0 → IsStanding image r (image.root r)
unfolding image tables words_of class_size sizes
stands r some = ⊎_elim
    (λ (to : r ≡ 9). subst (λ k. IsStanding image k (image.root k)) (sym to) (inr (inl (record { start = 4; range = block; holds = Holds-block 4 0 words_of (Some entry); here = refl }))))
    (λ other. absurd (some (others_none r other)))
    (cases_eq r 9)

claim : IsClaim image 9 block
unfolding image tables words_of is_large slab_of is_old_of class_size sizes
claim = record { some = omega arith; place = refl; wide = refl }

-- a block is root 9's
claims : (r : ℕ) (range : Range) → IsClaim image r range → r ≡ 9
unfolding image tables
claims r range has = ⊎_elim (λ (to : r ≡ 9). to) (λ other. absurd (no_claim image r range (others_none r other) refl has)) (cases_eq r 9)

image_open : IsOpen bounds image entry
unfolding image tables words_of
image_open = record {
  entry = record { low = omega arith; high = omega arith; differ = omega arith; some = inl (omega arith); same = λ one other. refl };
  none_morphing = λ start slab morphing. omega (arith, morphing, ap (λ s. (image.header s).kind) (slab_is image_extents start slab));
}

is_open : image.open_entry ≡ Some entry
unfolding image tables
is_open = refl

-- the image is steady
image_steady : IsSteady bounds image
unfolding image
image_steady = steady_by image_extents (record {
  slab = slab_valid 4 0 words_of (Some entry);
  open_entry = λ e is. let same : entry ≡ e = cc (is, is_open) in subst (IsOpen bounds image) same image_open;
  rooted = stands;
  apart = λ root other range another differ first second. absurd (differ (claims root range first ∙ sym (claims other another second)));
  claimed = λ range holds. (9, subst (IsClaim image 9) (sym (held_is 4 0 words_of (Some entry) range holds)) claim);
})

-- its heap has the block of root 9 alone
image_heap : (heap image 9 ≡ Some (record { at = 67584; size = 112 })) × (heap image 5 ≡ None) × ((r : ℕ) → r ≢ 9 → heap image r ≡ None)
unfolding image tables words_of is_large slab_of is_old_of class_size sizes
image_heap = (refl, refl, λ r other. heap-none image r (others_none r other))
