-- The state of an exact image is free of overlaps.
use Rattle.std.proofs.Common.{◌≡◌, ◌⊎◌, ℕ, ◌<◌, ◌≤◌, true, false, refl, sym, ap, ◌∙◌, arith, inl, inr, ⊎_elim, Some}
use Rattle.heap_check.proofs.Common.{cases_Bool, cases_lt, class_size-most, Tables, tables_of, root_table-past, Bounds, Range, Machine, IsOverlapFree}
use Rattle.heap_check.proofs.Sizes.{sizes_of}
use Rattle.heap_check.specs.Heap.{entry_at, heap, slabs, IsClaim, HoldsBit, HoldsOld}
use Rattle.heap_check.specs.Laws.{LawOfExactState}
use Rattle.heap_check.specs.Sound.{IsSound}
use Rattle.heap_check.proofs.Claims.{plain_size, IsNamed-claim}
use Rattle.heap_check.proofs.Geometry.{granules_at-slab, granules_at-large, plain_size-start}
use Rattle.heap_check.proofs.Heaps.{IsClaim-heap}
use Rattle.heap_check.proofs.LargeLogs.{large_many}
use Rattle.heap_check.proofs.OverlapFree.{IsSmall, IsWhole, overlap_free}
use Rattle.heap_check.proofs.SmallPlaces.{Holds-claim}
use Rattle.heap_check.proofs.Within.{IsWithin-claim, IsWithin-start}

-- sound tables in which no entry is open, each large extent has two granules at least, and only so many roots have a word
module _ {b : Bounds} {t : Tables} (sound : IsSound b t) (unnamed : (root : ℕ) → entry_at t.open_entry root ≡ 0) (many : (start : ℕ) → 0 < t.large start → 2 ≤ t.large start) (past : (root : ℕ) → b.roots ≤ root → t.root root ≡ 0) where
  -- each block is one of these two
  block_kinds : (root : ℕ) (range : Range) → IsClaim t root range → IsSmall t range ⊎ IsWhole t range
  block_kinds root range claim =
      let within = IsWithin-claim sound root range (unnamed root) claim in
      let start = within.0 in
      let lies = within.1 in
      ⊎_elim
      (λ (slab : t.slab start ≡ true).
      let four = granules_at-slab t start slab in
      let state = (sound.slabs start slab).state in
      let holds = Holds-claim sound root start range (unnamed root) claim (record { slab = slab; low = lies.low; high = omega (arith, lies.high, lies.some, four) }) in
      inl (record {
        start = start;
        slab = slab;
        lies = record { low = lies.low; high = omega (arith, lies.high, four) };
        some = lies.some;
        size = ⊎_elim
            (λ (bit : HoldsBit (t.header start) start range). omega (arith, ap (λ (x : Range). x.size) bit.is, class_size-most (t.header start).class state.is_class))
            (λ (old : HoldsOld (t.header start) start range). omega (arith, ap (λ (x : Range). x.size) old.is, class_size-most (t.header start).old state.is_old_class))
            holds.block;
      }))
      (λ (no_slab : t.slab start ≡ false).
      let whole = granules_at-large t start no_slab in
      let live : 0 < t.large start = omega (arith, lies.low, lies.high, lies.some, whole) in
      let at = IsWithin-start sound root start range (unnamed root) claim (λ slab. cc) lies in
      let wide = (IsNamed-claim t root range (unnamed root) claim).wide in
      inr (record { start = start; no_slab = no_slab; many = many start live; at = at; size = sym wide ∙ ap (plain_size t) at ∙ plain_size-start t start (t.large start) refl live }))
      (cases_Bool (t.slab start))

  module _ (m : Machine) (blocks : (root : ℕ) → heap t root ≡ m.block root) (classes : (start : ℕ) → slabs t start ≡ m.slab start) where
    claim : (root : ℕ) (range : Range) → m.block root ≡ Some range → IsClaim t root range
    claim root range named = IsClaim-heap t root range (unnamed root) (blocks root ∙ named)

    IsOverlapFree-sound : IsOverlapFree b m
    IsOverlapFree-sound = overlap_free b t sound.extents m classes (λ root range named. block_kinds root range (claim root range named))
        (λ root range named. ⊎_elim
        (λ below. below)
        (λ (beyond : b.roots ≤ root). let is = IsNamed-claim t root range (unnamed root) (claim root range named) in absurd (is.some (sym is.word ∙ past root beyond)))
        (cases_lt root b.roots))
        (λ root other range another differ first second. sound.owned.apart root other range another differ (claim root range first) (claim other another second))

pub law_of_exact_state : LawOfExactState
law_of_exact_state words m image state =
    let t = tables_of words in
    IsOverlapFree-sound image.exact.sound (λ root. ap (λ e. entry_at e root) image.exact.closed) (λ start some. large_many words start (omega (arith, (sizes_of words image.formed).most)) image.formed.log some) (root_table-past words) m state.blocks state.slabs
