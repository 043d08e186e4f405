-- An empty slab comes and goes: what the tables say then of extents, blocks and claims.
use Rattle.std.proofs.Common.{◌≡◌, ◌≢◌, ◌⊎◌, ℕ, ◌+◌, ◌-◌, ◌/◌, ◌<◌, ◌≤◌, true, false, true≢false, refl, cond, sym, ap, subst, ◌∙◌, arith, inl, inr, ⊎_elim, Bool, None}
use Rattle.heap_check.proofs.Common.{cases_eq, class_capacity, Tables, Bounds, Range}
use Rattle.heap_check.specs.Heap.{slab_of, is_large, entry_at, IsClaim, Holds, HoldsBit, HoldsOld}
use Rattle.heap_check.specs.Slabs.{IsSlabMore, IsFresh}
use Rattle.heap_check.specs.Sound.{granules_at, Covers, IsInSlab, IsHeld, IsStanding, IsEmptySlab}
use Rattle.heap_check.proofs.Claims.{plain_size, IsNamed-claim, IsClaim-named}
use Rattle.heap_check.proofs.SameSlabs.{Holds-same, Holds-same_back}
use Rattle.heap_check.proofs.Geometry.{granules_at-slab, granules_at-large}

-- the slab holds no block, its granules are no other extent's, and no root's word lies in them
pub record IsSlabPlace (b : Bounds) (t new : Tables) (start : ℕ) : Type 0 where
  pub more : IsSlabMore t new start
  pub holds_none : (range : Range) → ¬ (Holds new start range)
  pub closed : t.open_entry ≡ None
  pub first : 0 < b.first
  pub low : b.first ≤ start
  pub high : start + 4 ≤ b.granules
  pub no_large : t.large start ≡ 0
  pub free : (other k : ℕ) → other ≢ start → Covers t other k → (k < start) ⊎ (start + 4 ≤ k)
  pub away : (root : ℕ) → t.root root ≢ 0 → (t.root root / 16384 < start) ⊎ (start + 4 ≤ t.root root / 16384)

-- a fresh slab holds no block
pub holds_none-fresh : (t : Tables) {start class : ℕ} → IsFresh (t.header start) class → (range : Range) → ¬ (Holds t start range)
holds_none-fresh t {start} {class} fresh range holds = ⊎_elim
    (λ (bit : HoldsBit (t.header start) start range). true≢false (sym bit.set ∙ fresh.clear bit.number (subst (λ c. bit.number < class_capacity c) fresh.class_is bit.below)))
    (λ (old : HoldsOld (t.header start) start range). omega (arith, old.below, fresh.index_count))
    holds.block

module _ {b : Bounds} {t new : Tables} {start : ℕ} (place : IsSlabPlace b t new start) where
  abbrev it : IsSlabMore t new start
  it = place.more

  pub new_closed : new.open_entry ≡ None
  new_closed = it.entry ∙ place.closed

  pub unnamed : (root : ℕ) → entry_at t.open_entry root ≡ 0
  unnamed root = ap (λ e. entry_at e root) place.closed

  pub new_unnamed : (root : ℕ) → entry_at new.open_entry root ≡ 0
  new_unnamed root = ap (λ e. entry_at e root) new_closed

  pub word : (root : ℕ) → new.root root ≡ t.root root
  word root = ap (λ (row : ℕ → ℕ). row root) it.root

  pub large : (other : ℕ) → new.large other ≡ t.large other
  large other = ap (λ (row : ℕ → ℕ). row other) it.large

  -- a slab of the first tables is another
  pub slab-differ : (other : ℕ) → t.slab other ≡ true → other ≢ start
  slab-differ other slab same = true≢false (sym slab ∙ ap t.slab same ∙ it.none)

  -- extents

  pub granules_at-other : (other : ℕ) → other ≢ start → granules_at new other ≡ granules_at t other
  granules_at-other other differ = let same = (it.others other differ).slab in rw (same, large other) refl

  pub granules_at-new : granules_at new start ≡ 4
  granules_at-new = granules_at-slab new start it.slab

  pub granules_at-none : granules_at t start ≡ 0
  granules_at-none = granules_at-large t start it.none ∙ place.no_large

  pub Covers-differ : (other k : ℕ) → Covers t other k → other ≢ start
  Covers-differ other k covers same = omega (arith, covers.low, covers.high, ap (granules_at t) same, granules_at-none)

  pub Covers-back : (other k : ℕ) → other ≢ start → Covers new other k → Covers t other k
  Covers-back other k differ covers = record { low = covers.low; high = omega (arith, covers.high, granules_at-other other differ) }

  pub Covers-forth : (other k : ℕ) → Covers t other k → Covers new other k
  Covers-forth other k covers = record { low = covers.low; high = omega (arith, covers.high, granules_at-other other (Covers-differ other k covers)) }

  -- blocks that slabs hold

  pub Holds-back : (other : ℕ) (range : Range) → Holds new other range → (other ≢ start) × Holds t other range
  Holds-back other range holds = ⊎_elim
      (λ (same : other ≡ start). absurd (place.holds_none range (subst (λ s. Holds new s range) same holds)))
      (λ (differ : other ≢ start). (differ, Holds-same_back (it.others other differ) range holds))
      (cases_eq other start)

  pub Holds-forth : (other : ℕ) (range : Range) → Holds t other range → Holds new other range
  Holds-forth other range holds = Holds-same (it.others other (slab-differ other holds.slab)) range holds

  -- sizes and claims

  pub slab_of-away : (k : ℕ) → (k < start) ⊎ (start + 4 ≤ k) → (slab_of new.slab k ≡ slab_of t.slab k) × (slab_of t.slab k ≢ start)
  unfolding slab_of
  slab_of-away k away =
      let differ : (m : ℕ) → (m ≤ k) → (k ≤ m + 3) → m ≢ start = λ m from to same. ⊎_elim (λ x. omega (arith, x, same, from, to)) (λ x. omega (arith, x, same, from, to)) away in
      let here : k ≢ start = differ k (omega arith) (omega arith) in
      let one : k - 1 ≢ start = differ (k - 1) (omega arith) (omega arith) in
      let two : k - 2 ≢ start = differ (k - 2) (omega arith) (omega arith) in
      let three : k - 3 ≢ start = differ (k - 3) (omega arith) (omega arith) in (
        rw ((it.others k here).slab, (it.others (k - 1) one).slab, (it.others (k - 2) two).slab) refl,
        by (t.slab k) k _ here (by (t.slab (k - 1)) (k - 1) _ one (by (t.slab (k - 2)) (k - 2) (k - 3) two three)),
      )
    where
      by : (is : Bool) (m rest : ℕ) → m ≢ start → rest ≢ start → cond is m rest ≢ start
      by true m rest one other = one
      by false m rest one other = other

  pub plain_size-away : (at : ℕ) → (at / 16384 < start) ⊎ (start + 4 ≤ at / 16384) → plain_size new at ≡ plain_size t at
  plain_size-away at away =
      let s = slab_of t.slab (at / 16384) in
      let there = slab_of-away (at / 16384) away in
      let same = it.others s there.1 in
      rw (it.large, there.0, same.header) refl

  pub claims-forth : (root : ℕ) (range : Range) → IsClaim t root range → IsClaim new root range
  claims-forth root range claim =
      let named = IsNamed-claim t root range (unnamed root) claim in
      let some : t.root root ≢ 0 = λ none. named.some (sym named.word ∙ none) in
      IsClaim-named new root range (new_unnamed root) (record {
        some = named.some;
        word = word root ∙ named.word;
        wide = ap (plain_size new) (sym named.word) ∙ plain_size-away (t.root root) (place.away root some) ∙ ap (plain_size t) named.word ∙ named.wide;
      })

  pub claims-back : (root : ℕ) (range : Range) → IsClaim new root range → IsClaim t root range
  claims-back root range claim =
      let named = IsNamed-claim new root range (new_unnamed root) claim in
      let was : t.root root ≡ range.at = sym (word root) ∙ named.word in
      let some : t.root root ≢ 0 = λ none. named.some (sym was ∙ none) in
      IsClaim-named t root range (unnamed root) (record {
        some = named.some;
        word = was;
        wide = ap (plain_size t) (sym was) ∙ sym (plain_size-away (t.root root) (place.away root some)) ∙ ap (plain_size new) was ∙ named.wide;
      })

  -- where a root's block may stand

  pub stands-forth : (root : ℕ) → IsStanding t root (t.root root) → IsStanding new root (t.root root)
  stands-forth root standing = ⊎_elim
      (λ (is : is_large t.large (t.root root) ≡ true). inl (ap (λ (row : ℕ → ℕ). is_large row (t.root root)) it.large ∙ is))
      (λ rest. inr (⊎_elim
      (λ (held : IsHeld t (t.root root)). inl (record { start = held.start; range = held.range; holds = Holds-forth held.start held.range held.holds; here = held.here }))
      (λ by_entry. inr (ap (λ e. entry_at e root) it.entry ∙ by_entry))
      rest))
      standing

  pub stands-back : (root : ℕ) → IsStanding new root (t.root root) → IsStanding t root (t.root root)
  stands-back root standing = ⊎_elim
      (λ (is : is_large new.large (t.root root) ≡ true). inl (sym (ap (λ (row : ℕ → ℕ). is_large row (t.root root)) it.large) ∙ is))
      (λ rest. inr (⊎_elim
      (λ (held : IsHeld new (t.root root)). inl (record { start = held.start; range = held.range; holds = (Holds-back held.start held.range held.holds).1; here = held.here }))
      (λ by_entry. inr (sym (ap (λ e. entry_at e root) it.entry) ∙ by_entry))
      rest))
      standing

  -- the root's words lie in the same slabs

  pub IsInSlab-forth : (other at : ℕ) → IsInSlab t other at → IsInSlab new other at
  IsInSlab-forth other at inside = record { slab = (it.others other (slab-differ other inside.slab)).slab ∙ inside.slab; low = inside.low; high = inside.high }

  pub IsInSlab-back : (other at : ℕ) → other ≢ start → IsInSlab new other at → IsInSlab t other at
  IsInSlab-back other at differ inside = record { slab = sym (it.others other differ).slab ∙ inside.slab; low = inside.low; high = inside.high }

  -- none lies in the new one
  pub IsEmptySlab-new : IsEmptySlab new start
  IsEmptySlab-new = record {
    slab = it.slab;
    none = λ root some inside.
        let is = word root in
        ⊎_elim (λ x. omega (arith, x, is, inside.low)) (λ x. omega (arith, x, is, inside.high)) (place.away root (λ none. some (is ∙ none)));
  }
