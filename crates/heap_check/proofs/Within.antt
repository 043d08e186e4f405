-- A block that a slab holds, and the block of a root, lie in one live extent.
use Rattle.std.proofs.Common.{◌≡◌, ◌≢◌, ℕ, ◌+◌, ◌*◌, ◌/◌, ◌<◌, ◌≤◌, true, sym, ap, subst, ◌∙◌, arith, inl, inr, ⊎_elim}
use Rattle.heap_check.proofs.Common.{cases_eq, cases_lt, class_size, class_size-least, Tables, Bounds, Range, AreApart, LiesIn, LiesIn-block}
use Rattle.heap_check.specs.Heap.{is_large, entry_at, IsClaim, Holds, HoldsBit, HoldsOld}
use Rattle.heap_check.specs.Sound.{granules_at, Covers, IsInSlab, IsHeld, IsSound}
use Rattle.heap_check.proofs.Claims.{plain_size, IsNamed-claim}
use Rattle.heap_check.proofs.Geometry.{granules_at-slab, granules_at-live, is_large-parts, plain_size-large, plain_size-some}

-- a range has bytes, all of them in the live extent that starts at a granule
pub record IsWithin (t : Tables) (start : ℕ) (range : Range) : Type 0 where
  pub low : 16384 * start ≤ range.at
  pub high : range.at + range.size ≤ 16384 * (start + granules_at t start)
  pub some : 0 < range.size

-- its first granule is one of the extent
pub Covers-within : (t : Tables) (start : ℕ) (range : Range) → IsWithin t start range → Covers t start (range.at / 16384)
Covers-within t start range within = record { low = omega (arith, within.low); high = omega (arith, within.high, within.some) }

module _ {b : Bounds} {t : Tables} (sound : IsSound b t) where
  pub IsWithin-held : (start : ℕ) (range : Range) → Holds t start range → IsWithin t start range
  IsWithin-held start range holds =
      let four = granules_at-slab t start holds.slab in
      let slab = sound.slabs start holds.slab in
      let within : (class : ℕ) → class < 36 → (range.size ≡ class_size class) → LiesIn start range → IsWithin t start range = λ class below wide inside.
      record { low = inside.low; high = omega (arith, inside.high, four); some = omega (arith, wide, class_size-least class below) } in
      ⊎_elim
      (λ (bit : HoldsBit (t.header start) start range).
      within (t.header start).class slab.state.is_class (ap (λ (x : Range). x.size) bit.is) (LiesIn-block start (t.header start).class range (record { number = bit.number; within = bit.below; is = bit.is })))
      (λ (old : HoldsOld (t.header start) start range).
      within (t.header start).old slab.state.is_old_class (ap (λ (x : Range). x.size) old.is)
      (LiesIn-block start (t.header start).old range (record { number = (t.header start).number old.place; within = slab.small old.place old.below; is = old.is })))
      holds.block

  pub IsInSlab-held : (start : ℕ) (range : Range) → Holds t start range → IsInSlab t start range.at
  IsInSlab-held start range holds =
      let within = IsWithin-held start range holds in
      record { slab = holds.slab; low = within.low; high = omega (arith, within.high, within.some, granules_at-slab t start holds.slab) }

  -- two claims at one address are of one root
  pub one_claim : (root other : ℕ) (range another : Range) → IsClaim t root range → IsClaim t other another → range.at ≡ another.at → 0 < range.size → 0 < another.size → root ≡ other
  one_claim root other range another first second same some more = ⊎_elim
      (λ (is : root ≡ other). is)
      (λ (differ : root ≢ other). absurd (⊎_elim (λ x. omega (arith, x)) (λ x. omega (arith, x)) (sound.owned.apart root other range another differ first second)))
      (cases_eq root other)

  -- the block of a root that the open entry does not name
  pub IsWithin-claim : (root : ℕ) (range : Range) → entry_at t.open_entry root ≡ 0 → IsClaim t root range → (start : ℕ) × IsWithin t start range
  IsWithin-claim root range none claim =
      let named = IsNamed-claim t root range none claim in
      let wide : range.size ≡ plain_size t (t.root root) = sym named.wide ∙ ap (λ at. plain_size t at) (sym named.word) in
      ⊎_elim
      (λ (large : is_large t.large (t.root root) ≡ true).
      let start = t.root root / 16384 in
      let parts = is_large-parts t.large (t.root root) large in
      let size = plain_size-large t (t.root root) large in
      let whole = granules_at-live sound start parts.1 in
      (start, record { low = omega (arith, named.word, parts.0); high = omega (arith, named.word, parts.0, wide, size, whole); some = omega (arith, wide, size, parts.1) }))
      (λ rest. ⊎_elim
      (λ (held : IsHeld t (t.root root)).
      let owner = sound.owned.claimed held.start held.range held.holds in
      let within = IsWithin-held held.start held.range held.holds in
      let inside = IsInSlab-held held.start held.range held.holds in
      let some = plain_size-some sound held.start (t.root root) (subst (λ at. IsInSlab t held.start at) held.here inside) in
      let place : range.at ≡ held.range.at = sym named.word ∙ sym held.here in
      let same = one_claim root owner.0 range held.range claim owner.1 place (omega (arith, wide, some)) within.some in
      let its = IsNamed-claim t root held.range none (subst (λ r. IsClaim t r held.range) (sym same) owner.1) in
      let size : range.size ≡ held.range.size = sym named.wide ∙ ap (λ at. plain_size t at) place ∙ its.wide in
      (held.start, record { low = omega (arith, within.low, place); high = omega (arith, within.high, place, size); some = omega (arith, within.some, size) }))
      (λ by_entry. absurd (named.some (sym named.word ∙ sym by_entry ∙ none)))
      rest)
      (sound.owned.rooted root (λ z. named.some (sym named.word ∙ z)))

  -- a root's block in a large extent starts where that does
  pub IsWithin-start : (root start : ℕ) (range : Range) → entry_at t.open_entry root ≡ 0 → IsClaim t root range → t.slab start ≢ true → IsWithin t start range → range.at ≡ 16384 * start
  IsWithin-start root start range none claim no_slab within =
      let named = IsNamed-claim t root range none claim in
      let k = range.at / 16384 in
      let here = Covers-within t start range within in
      ⊎_elim
      (λ (large : is_large t.large (t.root root) ≡ true).
      let parts = is_large-parts t.large range.at (ap (λ at. is_large t.large at) (sym named.word) ∙ large) in
      let whole = granules_at-live sound k parts.1 in
      let same = sound.extents.disjoint k start k (record { low = omega arith; high = omega (arith, whole, parts.1) }) here in
      omega (arith, same, parts.0))
      (λ rest. ⊎_elim
      (λ (held : IsHeld t (t.root root)).
      let place = held.here ∙ named.word in
      let there = Covers-within t held.start held.range (IsWithin-held held.start held.range held.holds) in
      let same = sound.extents.disjoint held.start start k (subst (λ at. Covers t held.start (at / 16384)) place there) here in
      absurd (no_slab (ap t.slab (sym same) ∙ held.holds.slab)))
      (λ by_entry. absurd (named.some (sym named.word ∙ sym by_entry ∙ none)))
      rest)
      (sound.owned.rooted root (λ z. named.some (sym named.word ∙ z)))

  -- ranges in two live extents are apart
  pub AreApart-within : (start other : ℕ) (range another : Range) → IsWithin t start range → IsWithin t other another → start ≢ other → AreApart range another
  AreApart-within start other range another first second differ = ⊎_elim
      (λ (before : start < other). ⊎_elim
      (λ (meets : other < start + granules_at t start).
      absurd (differ (sound.extents.disjoint start other other (record { low = omega arith; high = meets }) (record { low = omega arith; high = omega (arith, second.low, second.high, second.some) }))))
      (λ (past : start + granules_at t start ≤ other). inl (omega (arith, first.high, second.low)))
      (cases_lt other (start + granules_at t start)))
      (λ (behind : other ≤ start). ⊎_elim
      (λ (meets : start < other + granules_at t other).
      absurd (differ (sound.extents.disjoint start other start (record { low = omega arith; high = omega (arith, first.low, first.high, first.some) }) (record { low = behind; high = meets }))))
      (λ (past : other + granules_at t other ≤ start). inr (omega (arith, second.high, first.low)))
      (cases_lt start (other + granules_at t other)))
      (cases_lt start other)
