-- The words of a root's block lie in the heap, in no slab's header, and in no vacant granule.
use Rattle.std.proofs.Common.{◌≡◌, ◌≢◌, ◌⊎◌, ℕ, ◌+◌, ◌*◌, ◌<◌, ◌≤◌, true, ap, subst, arith, inl, inr, ⊎_elim, Some, None}
use Rattle.heap_check.proofs.Common.{cases_eq, cases_lt, Tables, Bounds, Range}
use Rattle.heap_check.specs.Heap.{entry_at, heap, IsClaim, Holds, HoldsBit, HoldsOld}
use Rattle.heap_check.specs.Sound.{IsVacant, IsInSlab, IsSound}
use Rattle.heap_check.specs.State.{IsWordOf}
use Rattle.heap_check.proofs.Geometry.{granules_at-slab, Covers-slab}
use Rattle.heap_check.proofs.Heaps.{IsClaim-heap}
use Rattle.heap_check.proofs.Within.{IsWithin, IsWithin-claim}
use Rattle.heap_check.proofs.SmallPlaces.{Holds-claim}

-- a block that a slab holds lies behind the header
behind_header : (t : Tables) (start : ℕ) (range : Range) → Holds t start range → 16384 * start + 2048 ≤ range.at
behind_header t start range holds = ⊎_elim
    (λ (bit : HoldsBit (t.header start) start range). omega (arith, ap (λ (x : Range). x.at) bit.is))
    (λ (old : HoldsOld (t.header start) start range). omega (arith, ap (λ (x : Range). x.at) old.is))
    holds.block

-- a word that is not among some lies before or behind them
outside_by : (k from end : ℕ) → ¬ ((from ≤ k) × (k < end)) → (k < from) ⊎ (end ≤ k)
outside_by k from end none = ⊎_elim
    (λ (before : k < from). inl before)
    (λ (low : from ≤ k). ⊎_elim
    (λ (high : k < end). absurd (none (low, high)))
    (λ (behind : end ≤ k). inr behind)
    (cases_lt k end))
    (cases_lt k from)

module _ {b : Bounds} {t : Tables} (sound : IsSound b t) (closed : t.open_entry ≡ None) (root : ℕ) (range : Range) (named : heap t root ≡ Some range) (k : ℕ) (word : IsWordOf range k) where
  unnamed : entry_at t.open_entry root ≡ 0
  unnamed = ap (λ e. entry_at e root) closed

  claim : IsClaim t root range
  claim = IsClaim-heap t root range unnamed named

  there : (start : ℕ) × IsWithin t start range
  there = IsWithin-claim sound root range unnamed claim

  pub block_word-heap : 2048 * b.first ≤ k
  block_word-heap =
      let within = there.1 in
      let low = (sound.extents.starts there.0 (omega (arith, within.low, within.high, within.some))).0 in
      omega (arith, low, within.low, word.low)

  pub block_word-header : (start : ℕ) → t.slab start ≡ true → (k < 2048 * start) ⊎ (2048 * start + 256 ≤ k)
  block_word-header start slab = outside_by k (2048 * start) (2048 * start + 256) (λ among.
      let within = there.1 in
      ⊎_elim
      (λ (same : there.0 ≡ start).
      let here : IsWithin t start range = subst (λ s. IsWithin t s range) same within in
      let slab_here : IsInSlab t start range.at = record { slab = slab; low = here.low; high = omega (arith, here.high, here.some, granules_at-slab t start slab) } in
      omega (arith, behind_header t start range (Holds-claim sound root start range unnamed claim slab_here), word.low, among.1))
      (λ (differ : there.0 ≢ start).
      differ (sound.extents.disjoint there.0 start start
      (record { low = omega (arith, within.low, word.low, among.1); high = omega (arith, within.high, word.high, among.0) })
      (Covers-slab t start start slab (omega arith) (omega arith))))
      (cases_eq there.0 start))

  -- nor in a vacant granule
  pub block_word-vacant : (other : ℕ) → IsVacant b t other → (k < 2048 * other) ⊎ (2048 * other + 2048 ≤ k)
  block_word-vacant other vacant = outside_by k (2048 * other) (2048 * other + 2048) (λ among.
      let within = there.1 in
      vacant.none there.0 (record { low = omega (arith, within.low, word.low, among.1); high = omega (arith, within.high, word.high, among.0) }))
