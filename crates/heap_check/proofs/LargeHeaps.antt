-- A large extent and its root come and go: the heap afterwards, and which granules are vacant.
use Rattle.std.proofs.Common.{◌≡◌, ◌≢◌, ◌⊎◌, ◌↔◌, ℕ, ◌+◌, ◌*◌, ◌<◌, ◌≤◌, ap, ◌∙◌, arith, inl, inr, ⊎_elim, Some, None}
use Rattle.heap_check.proofs.Common.{cases_eq, Tables, Bounds, put_at-same, put_at-other}
use Rattle.heap_check.specs.Heap.{heap}
use Rattle.heap_check.specs.Sound.{granules_at, Covers, IsVacant}
use Rattle.heap_check.proofs.Claims.{plain_size}
use Rattle.heap_check.proofs.Geometry.{granules_at-large, plain_size-start}
use Rattle.heap_check.proofs.Heaps.{heap-none, heap-some, heap-same}
use Rattle.heap_check.proofs.LargePlaces.{cases_run}
use Rattle.heap_check.proofs.Large.{with_large, large_block, IsLargePlace, granules_at-own, Covers-back, Covers-forth, plain_size-elsewhere, entry_at-none}

module _ {b : Bounds} {t : Tables} {root start count : ℕ} (place : IsLargePlace b t root start count) where
  -- the heap afterwards

  pub heap-large_other : (here word other : ℕ) → other ≢ root → heap (with_large t start here root word) other ≡ heap t other
  heap-large_other here word other differ =
      heap-same t (with_large t start here root word) other (entry_at-none place other) (entry_at-none place other) (put_at-other t.root root other word differ)
      (λ some. plain_size-elsewhere t start here root word (t.root other) (place.lone other differ))

  pub heap-large_none : (here : ℕ) → heap (with_large t start here root 0) root ≡ None
  heap-large_none here = heap-none (with_large t start here root 0) root (put_at-same t.root root 0)

  pub heap-large_some : heap (with_large t start count root (16384 * start)) root ≡ Some (large_block start count)
  heap-large_some =
      let new = with_large t start count root (16384 * start) in
      let word : new.root root ≡ 16384 * start = put_at-same t.root root (16384 * start) in
      heap-some new root (entry_at-none place root) (λ none. omega (arith, word, none, place.low, place.first))
      ∙ ap (λ at. Some (record { at = at; size = plain_size new at })) word
      ∙ ap (λ size. Some (record { at = 16384 * start; size = size })) (plain_size-start new start count (put_at-same t.large start count) place.some)

  -- the granules that are vacant afterwards

  pub IsVacant-placed : (word k : ℕ) → t.large start ≡ 0 → IsVacant b (with_large t start count root word) k ↔ (IsVacant b t k × ((k < start) ⊎ (start + count ≤ k)))
  IsVacant-placed word k nothing =
      let new = with_large t start count root word in
      let own = granules_at-own t start count root word place.no_slab in (
        λ vacant. (
          record {
            low = vacant.low;
            high = vacant.high;
            none = λ other covers. ⊎_elim
                (λ (same : other ≡ start). omega (arith, covers.low, covers.high, ap (granules_at t) same, granules_at-large t start place.no_slab, nothing))
                (λ (differ : other ≢ start). vacant.none other (Covers-forth t start count root word other k differ covers))
                (cases_eq other start);
          },
          ⊎_elim
              (λ within. absurd (vacant.none start (record { low = within.0; high = omega (arith, within.1, own) })))
              (λ outside. outside)
              (cases_run start count k),
        ),
        λ both. record {
          low = both.0.low;
          high = both.0.high;
          none = λ other covers. ⊎_elim
              (λ (same : other ≡ start). ⊎_elim (λ x. omega (arith, x, covers.low, same)) (λ x. omega (arith, x, covers.high, ap (granules_at new) same, own, same)) both.1)
              (λ (differ : other ≢ start). both.0.none other (Covers-back t start count root word other k differ covers))
              (cases_eq other start);
        },
      )

  pub IsVacant-freed : (word k : ℕ) → t.large start ≡ count → IsVacant b (with_large t start 0 root word) k ↔ (IsVacant b t k ⊎ ((start ≤ k) × (k < start + count)))
  IsVacant-freed word k live =
      let new = with_large t start 0 root word in
      let whole : granules_at t start ≡ count = granules_at-large t start place.no_slab ∙ live in
      let other_only : (other : ℕ) → Covers new other k → (other ≢ start) × Covers t other k = λ other covers.
      let differ : other ≢ start = λ same. omega (arith, covers.low, covers.high, ap (granules_at new) same, granules_at-own t start 0 root word place.no_slab) in
      (differ, Covers-back t start 0 root word other k differ covers) in (
        λ vacant. ⊎_elim
            (λ within. inr within)
            (λ outside. inl (record {
              low = vacant.low;
              high = vacant.high;
              none = λ other covers. ⊎_elim
                  (λ (same : other ≡ start). ⊎_elim (λ x. omega (arith, x, covers.low, same)) (λ x. omega (arith, x, covers.high, ap (granules_at t) same, whole, same)) outside)
                  (λ (differ : other ≢ start). vacant.none other (Covers-forth t start 0 root word other k differ covers))
                  (cases_eq other start);
            }))
            (cases_run start count k),
        λ either. ⊎_elim
            (λ (vacant : IsVacant b t k). record { low = vacant.low; high = vacant.high; none = λ other covers. vacant.none other (other_only other covers).1 })
            (λ (within : (start ≤ k) × (k < start + count)). record {
              low = omega (arith, place.low, within.0);
              high = omega (arith, place.high, within.1);
              none = λ other covers.
                  let was = other_only other covers in
                  ⊎_elim (λ x. omega (arith, x, within.0)) (λ x. omega (arith, x, within.1)) (place.free other k was.0 was.1);
            })
            either,
      )
