-- Where a large extent and its root can come or go: on vacant granules, at the block of a root, and at a loose extent.
use Rattle.std.proofs.Common.{◌≡◌, ◌≢◌, ◌⊎◌, ℕ, ◌+◌, ◌-◌, ◌*◌, ◌/◌, ◌<◌, ◌≤◌, false, refl, ap, subst, ◌∙◌, arith, inl, inr, ⊎_elim, None}
use Rattle.heap_check.proofs.Common.{cases_lt, false_from_ne_true, Tables, Bounds}
use Rattle.heap_check.specs.Heap.{entry_at, IsClaim}
use Rattle.heap_check.specs.Sound.{granules_at, Covers, IsVacant, IsLooseLarge, IsSound, IsExact}
use Rattle.heap_check.proofs.Claims.{plain_size, IsClaim-word}
use Rattle.heap_check.proofs.Geometry.{granules_at-large, Covers-slab, granule_of-start, plain_size-start, granules_at-live}
use Rattle.heap_check.proofs.Within.{Covers-within, IsWithin-claim, one_claim}
use Rattle.heap_check.proofs.Large.{IsLargePlace}

-- a granule is one of a run, or lies before it or behind it
pub cases_run : (start count k : ℕ) → ((start ≤ k) × (k < start + count)) ⊎ ((k < start) ⊎ (start + count ≤ k))
cases_run start count k = ⊎_elim
    (λ (before : k < start). inr (inl before))
    (λ (from : start ≤ k). ⊎_elim (λ (within : k < start + count). inl (from, within)) (λ (behind : start + count ≤ k). inr (inr behind)) (cases_lt k (start + count)))
    (cases_lt k start)

-- in an exact image no large extent is loose
IsLooseLarge-none : {b : Bounds} {t : Tables} → IsExact b t → (start : ℕ) → ¬ (IsLooseLarge t start)
IsLooseLarge-none {b} {t} exact start loose = let named = exact.all_named start loose.live in loose.unnamed named.0 named.1

-- a run of vacant granules, and a root without a block
pub IsLargePlace-vacant : {b : Bounds} {t : Tables} {root start count : ℕ} → IsExact b t → 0 < b.first → 0 < count → t.root root ≡ 0 → ((k : ℕ) → start ≤ k → k < start + count → IsVacant b t k) →
    IsLargePlace b t root start count
IsLargePlace-vacant {b} {t} {root} {start} {count} exact first some none vacant =
    let here = vacant start (omega arith) (omega arith) in
    let last = vacant (start + (count - 1)) (omega arith) (omega arith) in
    let no_slab : t.slab start ≡ false = false_from_ne_true (t.slab start) (λ slab. here.none start (Covers-slab t start start slab (omega arith) (omega arith))) in
    record {
      sound = exact.sound;
      closed = exact.closed;
      first = first;
      low = here.low;
      some = some;
      high = omega (arith, last.high, some);
      no_slab = no_slab;
      free = λ other k differ covers. ⊎_elim (λ within. absurd ((vacant k within.0 within.1).none other covers)) (λ outside. outside) (cases_run start count k);
      was = inl (
        ⊎_elim
            (λ (live : 0 < t.large start). absurd (here.none start (record { low = omega arith; high = omega (arith, live, granules_at-large t start no_slab) })))
            (λ (nothing : t.large start ≤ 0). omega arith)
            (cases_lt 0 (t.large start)),
        none,
      );
      lone = λ other differ is.
          let unnamed : entry_at t.open_entry other ≡ 0 = ap (λ e. entry_at e other) exact.closed in
          let claim = IsClaim-word t other unnamed (λ nothing. omega (arith, here.low)) in
          let within = IsWithin-claim exact.sound other (record { at = t.root other; size = plain_size t (t.root other) }) unnamed claim in
          here.none within.0 (subst (λ k. Covers t within.0 k) (ap (λ at. at / 16384) is ∙ granule_of-start start) (Covers-within t within.0 _ within.1));
      none_loose = λ other differ. IsLooseLarge-none exact other;
    }

-- a live extent, of which the root's word is the start or which no root has
IsLargePlace-live : {b : Bounds} {t : Tables} {root start count : ℕ} → IsSound b t → t.open_entry ≡ None → 0 < b.first → 0 < count → t.large start ≡ count → (t.root root ≡ 0) ⊎ (t.root root ≡ 16384 * start) →
    ((other : ℕ) → other ≢ root → t.root other ≢ 16384 * start) → ((other : ℕ) → other ≢ start → ¬ (IsLooseLarge t other)) → IsLargePlace b t root start count
IsLargePlace-live {b} {t} {root} {start} {count} sound closed first some live word lone none_loose =
    let whole : granules_at t start ≡ count = granules_at-live sound start (omega (arith, live, some)) ∙ live in
    let bounds = sound.extents.starts start (omega (arith, whole, some)) in
    record {
      sound = sound;
      closed = closed;
      first = first;
      low = bounds.0;
      some = some;
      high = omega (arith, bounds.1, whole);
      no_slab = false_from_ne_true (t.slab start) (λ slab. omega (arith, sound.extents.one_kind start slab, live, some));
      free = λ other k differ covers. ⊎_elim
          (λ within. absurd (differ (sound.extents.disjoint other start k covers (record { low = within.0; high = omega (arith, within.1, whole) }))))
          (λ outside. outside)
          (cases_run start count k);
      was = inr (live, word);
      lone = lone;
      none_loose = none_loose;
    }

-- the extent of a root's block
pub IsLargePlace-named : {b : Bounds} {t : Tables} {root start count : ℕ} → IsExact b t → 0 < b.first → 0 < count → t.root root ≡ 16384 * start → t.large start ≡ count → IsLargePlace b t root start count
IsLargePlace-named {b} {t} {root} {start} {count} exact first some has live =
    let whole : granules_at t start ≡ count = granules_at-live exact.sound start (omega (arith, live, some)) ∙ live in
    let bounds = exact.sound.extents.starts start (omega (arith, whole, some)) in
    let wide : 0 < plain_size t (16384 * start) = omega (arith, plain_size-start t start count live some, some) in
    let claim : (other : ℕ) → t.root other ≡ 16384 * start → IsClaim t other (record { at = 16384 * start; size = plain_size t (16384 * start) }) = λ other is.
    subst (λ at. IsClaim t other (record { at = at; size = plain_size t at })) is
    (IsClaim-word t other (ap (λ e. entry_at e other) exact.closed) (λ none. omega (arith, is, none, bounds.0, first))) in
    IsLargePlace-live exact.sound exact.closed first some live (inr has)
    (λ other differ is. differ (one_claim exact.sound other root _ _ (claim other is) (claim root has) refl wide wide))
    (λ other differ. IsLooseLarge-none exact other)

-- a loose extent, and a root without a block
pub IsLargePlace-loose : {b : Bounds} {t : Tables} {root start : ℕ} → IsSound b t → t.open_entry ≡ None → 0 < b.first → t.root root ≡ 0 → IsLooseLarge t start → IsLargePlace b t root start (t.large start)
IsLargePlace-loose {b} {t} {root} {start} sound closed first none loose =
    IsLargePlace-live sound closed first loose.live refl (inl none)
    (λ other differ. loose.unnamed other)
    (λ other differ another. differ (sound.loose.large.same other start another loose))
