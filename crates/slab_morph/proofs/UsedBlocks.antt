-- The set of the blocks of a slab that are not unused, and what is read of the slab's header.
use Rattle.std.proofs.Common.{◌≡◌, ◌⊎◌, ◌↔◌, IsTrue, Bool, List, ◌+◌, ◌/◌, ◌<◌, ◌≤◌, ℕ, true, false, true≢false, sym, subst, ◌∙◌, arith, inl, inr, ⊎_elim}
use Rattle.slab_morph.proofs.Common.{cases_lt, cases_Bool, class_capacity, has, tables_of, SlabHeader, AreApart, slab_block, IsUnusedIn}
use Rattle.slab_morph.specs.Overlaps.{IsCoveredRange}
use Rattle.slab_morph.specs.SlabHeaders.{header_at, IsSlabHere}
use Rattle.slab_morph.proofs.UnusedBlocks.{IsRead, unused_read, used_marked, used_covered}

-- a live old block at one of the first n places overlaps the block
pub record IsCovered (h : SlabHeader) (start old class n number : ℕ) : Type 0 where
  pub place : ℕ
  pub below : place < n
  pub live : h.live place ≡ true
  pub overlap : ¬ (AreApart (slab_block start old (h.number place)) (slab_block start class number))

-- The set has the blocks whose bits are read and set, and those that the old blocks at the first n places overlap.
pub record AreUsed (h : SlabHeader) (start old class : ℕ) (reads : Bool) (n : ℕ) (set : List ℕ) : Type 0 where
  pub some : (i : ℕ) → i < class_capacity class → has set i ≡ true → (IsTrue reads × (h.bit i ≡ true)) ⊎ IsCovered h start old class n i
  pub unmarked : (i : ℕ) → i < class_capacity class → has set i ≡ false → ¬ (IsTrue reads × (h.bit i ≡ true))
  pub apart : (i : ℕ) → i < class_capacity class → has set i ≡ false → (place : ℕ) → place < n → h.live place ≡ true → AreApart (slab_block start old (h.number place)) (slab_block start class i)

-- at no place yet
pub used_first : (h : SlabHeader) (start old class : ℕ) (reads : Bool) (set : List ℕ) → ((i : ℕ) → i < class_capacity class → (has set i ≡ true) ↔ (IsTrue reads × (h.bit i ≡ true))) → AreUsed h start old class reads 0 set
used_first h start old class reads set marked = record {
  some = λ i within is. inl ((marked i within).0 is);
  unmarked = λ i within none both. true≢false (sym ((marked i within).1 both) ∙ none);
  apart = λ i within none place below. absurd (omega (arith, below));
}

-- at one place more
pub used_next : {h : SlabHeader} {start old class n from end : ℕ} {reads : Bool} {set new : List ℕ} → IsCoveredRange h start old class n from end → ((i : ℕ) → from ≤ i → i < end → has new i ≡ true) →
    ((i : ℕ) → (i < from) ⊎ (end ≤ i) → has new i ≡ has set i) → AreUsed h start old class reads n set → AreUsed h start old class reads (n + 1) new
used_next {h} {start} {old} {class} {n} {from} {end} {reads} {set} {new} range inside outside were = record {
  some = λ i within is. ⊎_elim
      (λ (in_range : (from ≤ i) × (i < end)). let hit = range.inside i in_range.0 in_range.1 in inr (record { place = n; below = omega arith; live = hit.0; overlap = hit.1 }))
      (λ out. ⊎_elim
      (λ marked. inl marked)
      (λ (covered : IsCovered h start old class n i). inr (record { place = covered.place; below = omega (arith, covered.below); live = covered.live; overlap = covered.overlap }))
      (were.some i within (sym (outside i out) ∙ is)))
      (cases_range i);
  unmarked = λ i within none. were.unmarked i within (sym (outside i (out_of i none)) ∙ none);
  apart = λ i within none place below live. ⊎_elim
      (λ (earlier : place < n). were.apart i within (sym (outside i (out_of i none)) ∙ none) place earlier live)
      (λ (last : n ≤ place).
      let same : n ≡ place = omega (arith, below, last) in
      subst (λ p. h.live p ≡ true → AreApart (slab_block start old (h.number p)) (slab_block start class i)) same (range.outside i within (out_of i none)) live)
      (cases_lt place n);
}
  where
    cases_range : (i : ℕ) → ((from ≤ i) × (i < end)) ⊎ ((i < from) ⊎ (end ≤ i))
    cases_range i = ⊎_elim
        (λ (less : i < from). inr (inl less))
        (λ (more : from ≤ i). ⊎_elim (λ (within : i < end). inl (more, within)) (λ (past : end ≤ i). inr (inr past)) (cases_lt i end))
        (cases_lt i from)

    out_of : (i : ℕ) → has new i ≡ false → (i < from) ⊎ (end ≤ i)
    out_of i none = ⊎_elim (λ in_range. absurd (true≢false (sym (inside i in_range.0 in_range.1) ∙ none))) (λ out. out) (cases_range i)

-- at all places that are read
pub used_all : {words : List ℕ} {slab class old entries : ℕ} {reads : Bool} (n : ℕ) (set : List ℕ) → IsSlabHere words slab → IsRead words (slab / 16384) class old entries reads → n ≡ entries →
    AreUsed (header_at words (slab / 16384)) (slab / 16384) old class reads n set → (i : ℕ) → i < class_capacity ((tables_of words).header (slab / 16384)).class → (has set i ≡ false) ↔ IsUnusedIn (tables_of words) (slab / 16384) ((tables_of words).header (slab / 16384)).class i
used_all {words} {slab} {class} {old} n set here read all used i below =
    let within : i < class_capacity class = subst (λ c. i < class_capacity c) (sym read.class_is) below in (
      λ none. unused_read here read i below (used.unmarked i within none) (λ place under. used.apart i within none place (omega (arith, all, under))),
      λ unused. ⊎_elim
          (λ is. absurd (⊎_elim
          (λ marked. used_marked here read i below marked unused)
          (λ (covered : IsCovered (header_at words (slab / 16384)) (slab / 16384) old class n i). used_covered here read i below covered.place (omega (arith, all, covered.below)) covered.live covered.overlap unused)
          (used.some i within is)))
          (λ none. none)
          (cases_Bool (has set i)),
    )
