-- A large extent and its root come and go: what the tables say then of extents, blocks and claims.
use Rattle.std.proofs.Common.{◌≡◌, ◌≢◌, ◌⊎◌, ℕ, ◌+◌, ◌*◌, ◌/◌, ◌<◌, ◌≤◌, true, false, true≢false, cond, sym, ap, subst, ◌∙◌, arith, inl, inr, ⊎_elim, None}
use Rattle.heap_check.proofs.Common.{cases_Bool, cases_lt, cond-false, Tables, Bounds, Range, AreApart, put_at, with_root, put_at-same, put_at-other}
use Rattle.heap_check.specs.Heap.{is_large, is_old, size_by, slab_of, entry_at, IsClaim, Holds}
use Rattle.heap_check.specs.Sound.{granules_at, Covers, IsInSlab, IsLooseLarge, IsSound}
use Rattle.heap_check.proofs.Claims.{plain_size, IsNamed-claim}
use Rattle.heap_check.proofs.Geometry.{granules_at-large, Covers-slab, is_large-parts, is_large-put, plain_size-large}
use Rattle.heap_check.proofs.Within.{IsWithin, IsWithin-claim, IsWithin-start}

-- the tables where a large extent of so many granules starts, 0 for none, and a root has this word
abbrev pub with_large : Tables → ℕ → ℕ → ℕ → ℕ → Tables
with_large t start count root word = record (with_root t root word) { large = put_at t.large start count }

-- the block of a large extent
abbrev pub large_block : ℕ → ℕ → Range
large_block start count = record { at = 16384 * start; size = 16384 * count }

-- a run of granules that no other extent has: there the root has a block, or an extent is loose, or there is none
pub record IsLargePlace (b : Bounds) (t : Tables) (root start count : ℕ) : Type 0 where
  pub sound : IsSound b t
  pub closed : t.open_entry ≡ None
  pub first : 0 < b.first
  pub low : b.first ≤ start
  pub some : 0 < count
  pub high : start + count ≤ b.granules
  pub no_slab : t.slab start ≡ false
  pub free : (other k : ℕ) → other ≢ start → Covers t other k → (k < start) ⊎ (start + count ≤ k)
  pub was : ((t.large start ≡ 0) × (t.root root ≡ 0)) ⊎ ((t.large start ≡ count) × ((t.root root ≡ 0) ⊎ (t.root root ≡ 16384 * start)))
  pub lone : (other : ℕ) → other ≢ root → t.root other ≢ 16384 * start
  pub none_loose : (other : ℕ) → other ≢ start → ¬ (IsLooseLarge t other)

-- there is neither extent nor word, or the extent alone, or both
pub record IsLargeStage (start count here word : ℕ) : Type 0 where
  pub is : ((here ≡ 0) × (word ≡ 0)) ⊎ ((here ≡ count) × ((word ≡ 0) ⊎ (word ≡ 16384 * start)))

-- what no place is asked for

module _ (t : Tables) (start here root word : ℕ) where
  pub granules_at-other : (other : ℕ) → other ≢ start → granules_at (with_large t start here root word) other ≡ granules_at t other
  granules_at-other other differ = ap (λ n. cond (t.slab other) 4 n) (put_at-other t.large start other here differ)

  pub granules_at-own : t.slab start ≡ false → granules_at (with_large t start here root word) start ≡ here
  granules_at-own no_slab = granules_at-large (with_large t start here root word) start no_slab ∙ put_at-same t.large start here

  pub Covers-back : (other k : ℕ) → other ≢ start → Covers (with_large t start here root word) other k → Covers t other k
  Covers-back other k differ covers = record { low = covers.low; high = omega (arith, covers.high, granules_at-other other differ) }

  pub Covers-forth : (other k : ℕ) → other ≢ start → Covers t other k → Covers (with_large t start here root word) other k
  Covers-forth other k differ covers = record { low = covers.low; high = omega (arith, covers.high, granules_at-other other differ) }

  -- what slabs hold is the same

  pub Holds-back : (other : ℕ) (range : Range) → Holds (with_large t start here root word) other range → Holds t other range
  Holds-back other range holds = holds

  pub Holds-forth : (other : ℕ) (range : Range) → Holds t other range → Holds (with_large t start here root word) other range
  Holds-forth other range holds = holds

  -- a block elsewhere has the size that it had
  pub plain_size-elsewhere : (at : ℕ) → at ≢ 16384 * start → plain_size (with_large t start here root word) at ≡ plain_size t at
  plain_size-elsewhere at other =
      let same = is_large-put t.large start here at other in
      ⊎_elim
      (λ (large : is_large t.large at ≡ true).
      let parts = is_large-parts t.large at large in
      let apart : at / 16384 ≢ start = λ is. other (parts.0 ∙ ap (λ k. 16384 * k) is) in
      plain_size-large (with_large t start here root word) at (same ∙ large) ∙ ap (λ n. 16384 * n) (put_at-other t.large start (at / 16384) here apart) ∙ sym (plain_size-large t at large))
      (λ (small : is_large t.large at ≡ false).
      cond-false (is_large (put_at t.large start here) at) _ (size_by t at (is_old (t.header (slab_of t.slab (at / 16384))) (slab_of t.slab (at / 16384)) at)) (same ∙ small)
      ∙ sym (cond-false (is_large t.large at) _ _ small))
      (cases_Bool (is_large t.large at))

module _ {b : Bounds} {t : Tables} {root start count : ℕ} (place : IsLargePlace b t root start count) where
  pub entry_at-none : (other : ℕ) → entry_at t.open_entry other ≡ 0
  entry_at-none other = ap (λ e. entry_at e other) place.closed

  pub slab-other : (other : ℕ) → t.slab other ≡ true → other ≢ start
  slab-other other slab same = true≢false (sym slab ∙ ap t.slab same ∙ place.no_slab)

  -- no slab has the place of the extent
  pub IsInSlab-none : (other : ℕ) → ¬ (IsInSlab t other (16384 * start))
  IsInSlab-none other inside =
      let covers = Covers-slab t other start inside.slab (omega (arith, inside.low)) (omega (arith, inside.high)) in
      ⊎_elim (λ x. omega (arith, x)) (λ x. omega (arith, x, place.some)) (place.free other start (slab-other other inside.slab) covers)

  -- a range in another extent is apart from the block
  AreApart-outside : (other : ℕ) (range : Range) → other ≢ start → IsWithin t other range → AreApart range (large_block start count)
  AreApart-outside other range differ within = ⊎_elim
      (λ (before : other < start). ⊎_elim
      (λ (meets : start < other + granules_at t other).
      absurd (⊎_elim (λ x. omega (arith, x)) (λ x. omega (arith, x, place.some)) (place.free other start differ (record { low = omega arith; high = meets }))))
      (λ (past : other + granules_at t other ≤ start). inl (omega (arith, within.high)))
      (cases_lt start (other + granules_at t other)))
      (λ (behind : start ≤ other).
      ⊎_elim (λ x. absurd (omega (arith, x, behind))) (λ x. inr (omega (arith, x, within.low)))
      (place.free other other differ (record { low = omega arith; high = omega (arith, within.low, within.high, within.some) })))
      (cases_lt other start)

  -- the block of another root is apart from it
  pub AreApart-others : (other : ℕ) (range : Range) → other ≢ root → IsClaim t other range → AreApart range (large_block start count)
  AreApart-others other range differ claim =
      let within = IsWithin-claim place.sound other range (entry_at-none other) claim in
      AreApart-outside within.0 range (λ same.
      let here : IsWithin t start range = subst (λ s. IsWithin t s range) same within.1 in
      let at = IsWithin-start place.sound other start range (entry_at-none other) claim (λ slab. true≢false (sym slab ∙ place.no_slab)) here in
      place.lone other differ ((IsNamed-claim t other range (entry_at-none other) claim).word ∙ at)) within.1
