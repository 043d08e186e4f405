-- Where a slab can come or go: on vacant granules, and where no root's block lies in it.
use Rattle.std.proofs.Common.{◌≡◌, ◌⊎◌, ℕ, ◌+◌, ◌/◌, ◌<◌, ◌≤◌, refl, sym, ap, subst, ◌∙◌, arith, ⊎_elim, None}
use Rattle.heap_check.proofs.Common.{cases_lt, Tables, Bounds}
use Rattle.heap_check.specs.Heap.{entry_at}
use Rattle.heap_check.specs.Slabs.{IsSlabMore, IsWithSlab}
use Rattle.heap_check.specs.Sound.{granules_at, Covers, IsVacant, IsInSlab, IsEmptySlab, IsSound}
use Rattle.heap_check.proofs.Claims.{plain_size, IsNamed-claim, IsClaim-word}
use Rattle.heap_check.proofs.Geometry.{granules_at-slab, granules_at-large, Covers-slab}
use Rattle.heap_check.proofs.Within.{IsInSlab-held, IsWithin-claim, Covers-within}
use Rattle.heap_check.proofs.LargePlaces.{cases_run}
use Rattle.heap_check.proofs.Slabs.{IsSlabPlace, holds_none-fresh}

-- four vacant granules
pub IsSlabPlace-vacant : {b : Bounds} {t new : Tables} {start class : ℕ} → IsSound b t → t.open_entry ≡ None → 0 < b.first → IsWithSlab t new start class →
    ((k : ℕ) → start ≤ k → k < start + 4 → IsVacant b t k) → IsSlabPlace b t new start
IsSlabPlace-vacant {b} {t} {new} {start} {class} sound closed first it vacant =
    let here = vacant start (omega arith) (omega arith) in
    let last = vacant (start + 3) (omega arith) (omega arith) in
    let outside : (k other : ℕ) → Covers t other k → (k < start) ⊎ (start + 4 ≤ k) = λ k other covers.
    ⊎_elim (λ within. absurd ((vacant k within.0 within.1).none other covers)) (λ out. out) (cases_run start 4 k) in
    record {
      more = it.more;
      holds_none = holds_none-fresh new it.fresh;
      closed = closed;
      first = first;
      low = here.low;
      high = omega (arith, last.high);
      no_large = ⊎_elim
          (λ (live : 0 < t.large start). absurd (here.none start (record { low = omega arith; high = omega (arith, live, granules_at-large t start it.more.none) })))
          (λ (nothing : t.large start ≤ 0). omega arith)
          (cases_lt 0 (t.large start));
      free = λ other k differ covers. outside k other covers;
      away = λ root some.
          let unnamed : entry_at t.open_entry root ≡ 0 = ap (λ e. entry_at e root) closed in
          let within = IsWithin-claim sound root (record { at = t.root root; size = plain_size t (t.root root) }) unnamed (IsClaim-word t root unnamed some) in
          outside (t.root root / 16384) within.0 (Covers-within t within.0 _ within.1);
    }

-- a slab without a root's block
pub IsSlabPlace-empty : {b : Bounds} {t new : Tables} {start : ℕ} → IsSound b new → new.open_entry ≡ None → 0 < b.first → IsSlabMore t new start → IsEmptySlab new start → IsSlabPlace b t new start
IsSlabPlace-empty {b} {t} {new} {start} sound closed first it empty =
    let four = granules_at-slab new start it.slab in
    let bounds = sound.extents.starts start (omega (arith, four)) in
    record {
      more = it;
      holds_none = λ range holds.
          let claim = sound.owned.claimed start range holds in
          let named = IsNamed-claim new claim.0 range (ap (λ e. entry_at e claim.0) closed) claim.1 in
          empty.none claim.0 (λ none. named.some (sym named.word ∙ none)) (subst (IsInSlab new start) (sym named.word) (IsInSlab-held sound start range holds));
      closed = sym it.entry ∙ closed;
      first = first;
      low = bounds.0;
      high = omega (arith, bounds.1, four);
      no_large = sym (ap (λ (row : ℕ → ℕ). row start) it.large) ∙ sound.extents.one_kind start it.slab;
      free = λ other k differ covers.
          let same = (it.others other differ).slab in
          let large = ap (λ (row : ℕ → ℕ). row other) it.large in
          let size : granules_at new other ≡ granules_at t other = rw (same, large) refl in
          ⊎_elim
          (λ within. absurd (differ (sound.extents.disjoint other start k (record { low = covers.low; high = omega (arith, covers.high, size) }) (Covers-slab new start k it.slab within.0 within.1))))
          (λ outside. outside)
          (cases_run start 4 k);
      away = λ root some.
          let is = ap (λ (row : ℕ → ℕ). row root) it.root in
          let at = t.root root in
          ⊎_elim
          (λ within. absurd (empty.none root (λ none. some (sym is ∙ none)) (record { slab = it.slab; low = omega (arith, within.0, is); high = omega (arith, within.1, is) })))
          (λ outside. outside)
          (cases_run start 4 (at / 16384));
    }
