-- Where live extents lie, and which one has an address.
use Rattle.std.proofs.Common.{◌≡◌, ◌≢◌, ◌&&◌, ◌==◌, ℕ, ◌+◌, ◌-◌, ◌*◌, ◌/◌, ◌%◌, ◌<◌, ◌≤◌, Bool, true, false, true≢false, cond, refl, sym, ap, subst, ◌∙◌, arith, ⊎_elim, ltb, List, Option, Some, None}
use Rattle.std.proofs.lemmas.Nat.{mul-le}
use Rattle.heap_check.proofs.Common.{cases_eq, eq-eqb, eqb-true, ltb-true, lt-ltb, cond-true, cond-false, and_parts, and_from, false_from_ne_true, class_size, class_capacity, class_size-least, SlabHeader, Tables, tables_of, is_slab_of, Bounds, slab_block, LiesIn-block, put_at, put_at-other, extent_at, Extent, slab_table, large_table}
use Rattle.book_log.specs.Live.{granules_of}
use Rattle.heap_check.specs.Heap.{slab_of, is_large, is_old}
use Rattle.heap_check.specs.Sound.{granules_at, Covers, AreExtents, IsInSlab, IsValidSlab, IsSound}
use Rattle.heap_check.proofs.Claims.{plain_size}

-- extents

pub granules_at-slab : (t : Tables) (start : ℕ) → t.slab start ≡ true → granules_at t start ≡ 4
granules_at-slab t start slab = cond-true (t.slab start) 4 (t.large start) slab

pub granules_at-large : (t : Tables) (start : ℕ) → t.slab start ≡ false → granules_at t start ≡ t.large start
granules_at-large t start no_slab = cond-false (t.slab start) 4 (t.large start) no_slab

pub Covers-slab : (t : Tables) (start k : ℕ) → t.slab start ≡ true → start ≤ k → k < start + 4 → Covers t start k
Covers-slab t start k slab low high = record { low = low; high = omega (arith, high, granules_at-slab t start slab) }

-- a valid slab has 64 index entries at most
pub index_count_few : {h : SlabHeader} → IsValidSlab h → h.index_count ≤ 64
index_count_few {h} is = ⊎_elim (λ (normal : h.kind ≡ 1). omega (arith, (is.state.none normal).1)) (λ (other : h.kind ≢ 1). (is.state.number other).1) (cases_eq h.kind 1)

-- numbers of blocks are below 4096
pub number_few : (class i : ℕ) → class < 36 → i < class_capacity class → i < 4096
number_few class i is_class below =
    let some = class_size-least class is_class in
    let lies = LiesIn-block 0 class (slab_block 0 class i) (record { number = i; within = below; is = refl }) in
    let least : i * 16 ≤ i * class_size class = mul-le i 16 i (class_size class) (omega arith) some in
    omega (arith, least, lies.high)

-- addresses at which a large extent starts

pub is_large-parts : (large : ℕ → ℕ) (at : ℕ) → is_large large at ≡ true → (at ≡ 16384 * (at / 16384)) × (0 < large (at / 16384))
unfolding is_large
is_large-parts large at is =
    let parts = and_parts (at % 16384 == 0) (ltb 0 (large (at / 16384))) is in
    (omega (arith, eqb-true (at % 16384) 0 parts.0), ltb-true 0 (large (at / 16384)) parts.1)

pub granule_of-start : (start : ℕ) → 16384 * start / 16384 ≡ start
granule_of-start start = omega arith

pub is_large-start : (large : ℕ → ℕ) (start : ℕ) → 0 < large start → is_large large (16384 * start) ≡ true
unfolding is_large
is_large-start large start some =
    and_from _ _ (eq-eqb (16384 * start % 16384) 0 (omega arith)) (lt-ltb 0 (large (16384 * start / 16384)) (subst (λ k. 0 < large k) (sym (granule_of-start start)) some))

pub plain_size-large : (t : Tables) (at : ℕ) → is_large t.large at ≡ true → plain_size t at ≡ 16384 * t.large (at / 16384)
plain_size-large t at large = cond-true (is_large t.large at) _ _ large

-- the size of the block of a large extent
pub plain_size-start : (t : Tables) (start count : ℕ) → t.large start ≡ count → 0 < count → plain_size t (16384 * start) ≡ 16384 * count
plain_size-start t start count is some =
    plain_size-large t (16384 * start) (is_large-start t.large start (omega (arith, is, some))) ∙ ap (λ k. 16384 * t.large k) (granule_of-start start) ∙ ap (λ n. 16384 * n) is

-- a granule lies in one slab
pub slab_of-extents : {b : Bounds} (t : Tables) → AreExtents b t.large t.slab → (start k : ℕ) → t.slab start ≡ true → start ≤ k → k < start + 4 → slab_of t.slab k ≡ start
unfolding slab_of
slab_of-extents {b} t extents start k slab low high =
    let here : Covers t start k = Covers-slab t start k slab low high in
    let step : (is : Bool) (m rest : ℕ) → t.slab m ≡ is → m ≤ k → k < m + 4 → (is ≡ false → rest ≡ start) → cond is m rest ≡ start =
    λ is m rest. elim is as (λ is. t.slab m ≡ is → m ≤ k → k < m + 4 → (is ≡ false → rest ≡ start) → cond is m rest ≡ start) [
      | true ↦ λ is from to next. extents.disjoint m start k (Covers-slab t m k is from to) here
      | false ↦ λ is from to next. next refl
    ] in
    step (t.slab k) k _ refl (omega arith) (omega arith) (λ none.
    step (t.slab (k - 1)) (k - 1) _ refl (omega arith) (omega arith) (λ none_1.
    step (t.slab (k - 2)) (k - 2) _ refl (omega arith) (omega arith) (λ none_2.
    let elsewhere : (m : ℕ) → t.slab m ≡ false → m ≢ start = λ m none same. true≢false (sym slab ∙ ap t.slab (sym same) ∙ none) in
    omega (arith, elsewhere k none, elsewhere (k - 1) none_1, elsewhere (k - 2) none_2))))

module _ {b : Bounds} {t : Tables} (sound : IsSound b t) where
  pub granules_at-live : (start : ℕ) → 0 < t.large start → granules_at t start ≡ t.large start
  granules_at-live start some = granules_at-large t start (false_from_ne_true (t.slab start) (λ slab. omega (arith, sound.extents.one_kind start slab)))

  pub slab_of-here : (start k : ℕ) → t.slab start ≡ true → start ≤ k → k < start + 4 → slab_of t.slab k ≡ start
  slab_of-here = slab_of-extents t sound.extents

  -- no large extent starts in a slab
  pub is_large-slab : (start at : ℕ) → IsInSlab t start at → is_large t.large at ≡ false
  is_large-slab start at inside = false_from_ne_true (is_large t.large at) (λ large.
      let parts = is_large-parts t.large at large in
      let whole = granules_at-live (at / 16384) parts.1 in
      let here : Covers t start (at / 16384) = Covers-slab t start (at / 16384) inside.slab (omega (arith, inside.low)) (omega (arith, inside.high)) in
      let same : at / 16384 ≡ start = sound.extents.disjoint (at / 16384) start (at / 16384) (record { low = omega arith; high = omega (arith, whole, parts.1) }) here in
      omega (arith, parts.1, ap t.large same, sound.extents.one_kind start inside.slab))

  -- a block in a slab has a size
  pub plain_size-some : (start at : ℕ) → IsInSlab t start at → 0 < plain_size t at
  plain_size-some start at inside =
      let here : slab_of t.slab (at / 16384) ≡ start = slab_of-here start (at / 16384) inside.slab (omega (arith, inside.low)) (omega (arith, inside.high)) in
      let state = (sound.slabs start inside.slab).state in
      let by : (of_old : Bool) → 0 < class_size (cond of_old (t.header start).old (t.header start).class) = λ of_old. elim of_old as (λ of_old. 0 < class_size (cond of_old (t.header start).old (t.header start).class)) [
        | true ↦ omega (arith, class_size-least (t.header start).old state.is_old_class)
        | false ↦ omega (arith, class_size-least (t.header start).class state.is_class)
      ] in
      rw (is_large-slab start at inside, here) (by (is_old (t.header start) start at))

-- a large extent is put at a granule where no slab starts

pub is_large-put : (large : ℕ → ℕ) (start count at : ℕ) → at ≢ 16384 * start → is_large (put_at large start count) at ≡ is_large large at
unfolding is_large
is_large-put large start count at other = by (at % 16384 == 0) refl
  where
    by : (aligned : Bool) → (at % 16384 == 0) ≡ aligned → (aligned && ltb 0 (put_at large start count (at / 16384))) ≡ (aligned && ltb 0 (large (at / 16384)))
    by true test = ap (λ n. ltb 0 n) (put_at-other large start (at / 16384) count (λ same. other (omega (arith, same, eqb-true (at % 16384) 0 test))))
    by false test = refl

-- an address lies in one slab
pub one_slab : {b : Bounds} {t : Tables} → IsSound b t → (one other at : ℕ) → IsInSlab t one at → IsInSlab t other at → one ≡ other
one_slab {b} {t} sound one other at first second = sound.extents.disjoint one other (at / 16384)
    (Covers-slab t one (at / 16384) first.slab (omega (arith, first.low)) (omega (arith, first.high)))
    (Covers-slab t other (at / 16384) second.slab (omega (arith, second.low)) (omega (arith, second.high)))

-- what the tables say of a granule by its extent

pub slab_is : (words : List ℕ) (start : ℕ) (here : Option Extent) → extent_at words start ≡ here → (tables_of words).slab start ≡ is_slab_of here
slab_is words start here is = grind (arith, slab_table)

-- a live extent has its granules
pub size_is : (words : List ℕ) (start : ℕ) (here : Extent) → extent_at words start ≡ Some here → granules_at (tables_of words) start ≡ granules_of here
size_is words start here is = grind (arith, granules_at-large, slab_table, large_table, granules_at-slab)

-- where nothing starts, there are none
pub size_none : (words : List ℕ) (start : ℕ) → extent_at words start ≡ None → granules_at (tables_of words) start ≡ 0
size_none words start is = grind (arith, granules_at-large, slab_table, large_table)
