-- An image in which no entry is open and nothing is loose is exact.
use Rattle.std.proofs.Common.{◌≡◌, ◌≢◌, ◌⊎◌, ◌&&◌, ℕ, zero, suc, ◌+◌, ◌*◌, ◌<◌, ◌≤◌, Bool, true, false, true≢false, ltb, leb, eqb, List, refl, sym, ap, ◌∙◌, arith, inl, inr, ⊎_elim, None}
use Rattle.defect_search.proofs.Common.{cases_eq, eqb-true, eq-eqb, ltb-true, lt-ltb, leb-true, le-leb, and_parts, and_from, layout_of, version_in, Tables, tables_of, IsInSlab, IsLooseLarge, IsEmptySlab, IsMorphing, IsDoneSlab, IsSoundImage, IsExactImage, HasNone}
use Rattle.heap_check.proofs.Geometry.{granules_at-slab, granules_at-live}
use Rattle.heap_check.proofs.Sizes.{sizes_of}
use Rattle.defect_search.proofs.Marks.{root_below}

-- a number below a bound passes a test, or none does
pub search_below : (test : ℕ → Bool) (n : ℕ) → ((k : ℕ) × (k < n) × (test k ≡ true)) ⊎ ((k : ℕ) → k < n → test k ≡ false)
search_below test zero = inr (λ k below. absurd (omega arith))
search_below test (suc n) = by (test n) refl (search_below test n)
  where
    by : (b : Bool) → test n ≡ b → ((k : ℕ) × (k < n) × (test k ≡ true)) ⊎ ((k : ℕ) → k < n → test k ≡ false) → ((k : ℕ) × (k < suc n) × (test k ≡ true)) ⊎ ((k : ℕ) → k < suc n → test k ≡ false)
    by true here rest = inl (n, omega arith, here)
    by false here rest = ⊎_elim
        (λ found. inl (found.0, omega (arith, found.1), found.2))
        (λ none. inr (λ k below. ⊎_elim (λ (same : k ≡ n). ap test same ∙ here) (λ (other : k ≢ n). none k (omega arith)) (cases_eq k n)))
        rest

-- what is named and what lives where nothing is loose, in tables whose roots hold nothing from a bound on
module _ (t : Tables) (roots : ℕ) (below : (root : ℕ) → t.root root ≢ 0 → root < roots) where
  pub named : ((start : ℕ) → 0 < t.large start → 0 < start) → HasNone (IsLooseLarge t) → (start : ℕ) → 0 < t.large start → (root : ℕ) × (t.root root ≡ 16384 * start)
  named begins no_large start some =
      let late = begins start some in
      ⊎_elim
      (λ found. (found.0, eqb-true (t.root found.0) (16384 * start) found.2))
      (λ none. absurd (no_large.none start (record {
        live = some;
        unnamed = λ root here. true≢false (sym (eq-eqb (t.root root) (16384 * start) here) ∙ none root (below root (λ z. omega (arith, here, z, late))));
      })))
      (search_below (λ root. eqb (t.root root) (16384 * start)) roots)

  pub lived : ((start : ℕ) → t.slab start ≡ true → 0 < start) → HasNone (IsEmptySlab t) → (start : ℕ) → t.slab start ≡ true → (root : ℕ) × (t.root root ≢ 0) × IsInSlab t start (t.root root)
  lived begins no_empty start slab =
      let late = begins start slab in
      ⊎_elim
      (λ found.
      let parts = and_parts (leb (16384 * start) (t.root found.0)) (ltb (t.root found.0) (16384 * start + 65536)) found.2 in
      let low : 16384 * start ≤ t.root found.0 = leb-true (16384 * start) (t.root found.0) parts.0 in
      let high : t.root found.0 < 16384 * start + 65536 = ltb-true (t.root found.0) (16384 * start + 65536) parts.1 in
      (found.0, (λ z. omega (arith, low, z, late)), record { slab = slab; low = low; high = high }))
      (λ none. absurd (no_empty.none start (record {
        slab = slab;
        none = λ root some inside.
            true≢false (sym (and_from (leb (16384 * start) (t.root root)) (ltb (t.root root) (16384 * start + 65536)) (le-leb (16384 * start) (t.root root) inside.low) (lt-ltb (t.root root) (16384 * start + 65536) inside.high)) ∙ none root (below root some));
      })))
      (search_below (λ root. leb (16384 * start) (t.root root) && ltb (t.root root) (16384 * start + 65536)) roots)

module _ (words : List ℕ) (image : IsSoundImage words) where
  abbrev t : Tables
  t = tables_of words

  large_start : (start : ℕ) → 0 < t.large start → 0 < start
  large_start start some =
      let size = granules_at-live image.sound start some in
      omega (arith, (image.sound.extents.starts start (omega (arith, size, some))).0, (sizes_of words image.formed).first)

  slab_start : (start : ℕ) → t.slab start ≡ true → 0 < start
  slab_start start slab =
      let four = granules_at-slab t start slab in
      omega (arith, (image.sound.extents.starts start (omega (arith, four))).0, (sizes_of words image.formed).first)

  pub exact_by_none : t.open_entry ≡ None → HasNone (IsLooseLarge t) → HasNone (IsEmptySlab t) → HasNone (IsMorphing t) → HasNone (IsDoneSlab t) → IsExactImage words
  exact_by_none closed no_large no_empty none_morphing no_done =
      let roots = (layout_of (version_in words)).roots in
      record {
        formed = image.formed;
        exact = record {
          sound = image.sound;
          closed = closed;
          all_named = named t roots (root_below words) large_start no_large;
          all_live = lived t roots (root_below words) slab_start no_empty;
          none_morphing = none_morphing.none;
          none_done = no_done.none;
        };
      }
