-- An empty slab comes and goes: the heap and the slabs afterwards, and which granules are vacant.
use Rattle.std.proofs.Common.{◌≡◌, ◌≢◌, ◌⊎◌, ◌↔◌, ℕ, ◌+◌, ◌<◌, ◌≤◌, cond, ap, ◌∙◌, arith, inl, inr, ⊎_elim, Some, None}
use Rattle.heap_check.proofs.Common.{cases_eq, cond-true, cond-false, SlabHeader, Tables, Bounds}
use Rattle.heap_check.specs.Heap.{heap, slabs}
use Rattle.heap_check.specs.Slabs.{IsFresh}
use Rattle.heap_check.specs.Sound.{granules_at, IsVacant}
use Rattle.heap_check.proofs.Heaps.{heap-same}
use Rattle.heap_check.proofs.LargePlaces.{cases_run}
use Rattle.heap_check.proofs.Slabs.{IsSlabPlace, unnamed, new_unnamed, word, granules_at-new, Covers-differ, Covers-back, Covers-forth, plain_size-away}

module _ {b : Bounds} {t new : Tables} {start : ℕ} (place : IsSlabPlace b t new start) where
  pub heap-slab : (root : ℕ) → heap new root ≡ heap t root
  heap-slab root = heap-same t new root (unnamed place root) (new_unnamed place root) (word place root) (λ some. plain_size-away place (t.root root) (place.away root some))

  pub slabs-slab : (class : ℕ) → IsFresh (new.header start) class → slabs new start ≡ Some class
  slabs-slab class fresh = cond-true (new.slab start) (Some (new.header start).class) None place.more.slab ∙ ap (λ c. Some c) fresh.class_is

  pub slabs-none : slabs t start ≡ None
  slabs-none = cond-false (t.slab start) (Some (t.header start).class) None place.more.none

  pub slabs-other : (other : ℕ) → other ≢ start → slabs new other ≡ slabs t other
  slabs-other other differ =
      let same = place.more.others other differ in
      ap (λ b. cond b (Some (new.header other).class) None) same.slab ∙ ap (λ (h : SlabHeader). cond (t.slab other) (Some h.class) None) same.header

  -- the granules that are vacant with the slab

  pub IsVacant-slab : (k : ℕ) → IsVacant b new k ↔ (IsVacant b t k × ((k < start) ⊎ (start + 4 ≤ k)))
  IsVacant-slab k = (
    λ vacant. (
      record { low = vacant.low; high = vacant.high; none = λ other covers. vacant.none other (Covers-forth place other k covers) },
      ⊎_elim
          (λ within. absurd (vacant.none start (record { low = within.0; high = omega (arith, within.1, granules_at-new place) })))
          (λ outside. outside)
          (cases_run start 4 k),
    ),
    λ both. record {
      low = both.0.low;
      high = both.0.high;
      none = λ other covers. ⊎_elim
          (λ (same : other ≡ start).
          ⊎_elim (λ x. omega (arith, x, covers.low, same)) (λ x. omega (arith, x, covers.high, ap (granules_at new) same, granules_at-new place, same)) both.1)
          (λ (differ : other ≢ start). both.0.none other (Covers-back place other k differ covers))
          (cases_eq other start);
    },
  )

  -- and without it

  pub IsVacant-no_slab : (k : ℕ) → IsVacant b t k ↔ (IsVacant b new k ⊎ ((start ≤ k) × (k < start + 4)))
  IsVacant-no_slab k = (
    λ vacant. ⊎_elim
        (λ within. inr within)
        (λ outside. inl ((IsVacant-slab k).1 (vacant, outside)))
        (cases_run start 4 k),
    λ either. ⊎_elim
        (λ (vacant : IsVacant b new k). ((IsVacant-slab k).0 vacant).0)
        (λ (within : (start ≤ k) × (k < start + 4)). record {
          low = omega (arith, place.low, within.0);
          high = omega (arith, place.high, within.1);
          none = λ other covers.
              ⊎_elim (λ x. omega (arith, x, within.0)) (λ x. omega (arith, x, within.1)) (place.free other k (Covers-differ place other k covers) covers);
        })
        either,
  )
