-- A machine whose slabs are those of tables, and each of whose blocks lies in a slab or is a large extent of them, is free of overlaps.
use Rattle.std.proofs.Common.{◌≡◌, ◌≢◌, ◌⊎◌, ℕ, ◌+◌, ◌*◌, ◌<◌, ◌≤◌, Bool, true, false, cond, refl, sym, ap, ◌∙◌, arith, inl, inr, ⊎_elim, Some, None}
use Rattle.std.proofs.lemmas.Bool.{cases_lt}
use Rattle.image_tables.specs.Tables.{Tables}
use Rattle.heap_model.specs.Machine.{Bounds, Range, Machine, IsLarge, LiesIn, AreApart, IsOverlapFree}
use Rattle.heap_check.specs.Heap.{slabs}
use Rattle.heap_check.specs.Sound.{AreExtents}
use Rattle.heap_check.proofs.Geometry.{granules_at-slab, granules_at-large, Covers-slab}

-- a block in a slab
pub record IsSmall (t : Tables) (range : Range) : Type 0 where
  pub start : ℕ
  pub slab : t.slab start ≡ true
  pub lies : LiesIn start range
  pub some : 0 < range.size
  pub size : range.size ≤ 16384

-- the block of a large extent
pub record IsWhole (t : Tables) (range : Range) : Type 0 where
  pub start : ℕ
  pub no_slab : t.slab start ≡ false
  pub many : 2 ≤ t.large start
  pub at : range.at ≡ 16384 * start
  pub size : range.size ≡ 16384 * t.large start

module _ (b : Bounds) (t : Tables) (extents : AreExtents b t.large t.slab) (m : Machine) (classes : (start : ℕ) → slabs t start ≡ m.slab start) (kinds : (root : ℕ) (range : Range) → m.block root ≡ Some range → IsSmall t range ⊎ IsWhole t range) where
  large_kind : (root : ℕ) (range : Range) → m.block root ≡ Some range → IsLarge range → IsWhole t range
  large_kind root range named large = ⊎_elim (λ (small : IsSmall t range). absurd (omega (arith, large, small.size))) (λ whole. whole) (kinds root range named)

  slab : (start class : ℕ) → m.slab start ≡ Some class → t.slab start ≡ true
  slab start class named = by (t.slab start) (classes start ∙ named)
    where
      by : (is : Bool) → cond is (Some (t.header start).class) None ≡ Some class → is ≡ true
      by true named = refl
      by false named = cc

  slab_apart : (s k c d : ℕ) → s ≢ k → m.slab s ≡ Some c → m.slab k ≡ Some d → s ≤ k → s + 4 ≤ k
  slab_apart s k c d differ first second before = ⊎_elim
      (λ (meets : k < s + 4). absurd (differ (extents.disjoint s k k (Covers-slab t s k (slab s c first) before meets) (Covers-slab t k k (slab k d second) (omega arith) (omega arith)))))
      (λ past. past)
      (cases_lt k (s + 4))

  pub overlap_free : ((root : ℕ) (range : Range) → m.block root ≡ Some range → root < b.roots) →
      ((root other : ℕ) (range another : Range) → root ≢ other → m.block root ≡ Some range → m.block other ≡ Some another → AreApart range another) → IsOverlapFree b m
  overlap_free rooted apart = record {
    apart = λ root other range another differ first second. apart root other range another differ first second;
    rooted = rooted;
    sized = λ root range named. ⊎_elim (λ (small : IsSmall t range). small.some) (λ (whole : IsWhole t range). omega (arith, whole.size, whole.many)) (kinds root range named);
    slabs = λ s c named. let four = granules_at-slab t s (slab s c named) in let bounds = extents.starts s (omega (arith, four)) in (bounds.0, omega (arith, bounds.1, four));
    slabs_apart = λ s k c d differ first second. ⊎_elim
        (λ (before : s < k). inl (slab_apart s k c d differ first second (omega arith)))
        (λ (behind : k ≤ s). inr (slab_apart k s d c (λ same. differ (sym same)) second first behind))
        (cases_lt s k);
    small = λ root range named little. ⊎_elim
        (λ (small : IsSmall t range). (small.start, (t.header small.start).class, sym (classes small.start) ∙ ap (λ is. cond is (Some (t.header small.start).class) None) small.slab, small.lies))
        (λ (whole : IsWhole t range). absurd (little (omega (arith, whole.size, whole.many))))
        (kinds root range named);
    large = λ root range named large.
        let whole = large_kind root range named large in
        let size = granules_at-large t whole.start whole.no_slab in
        let bounds = extents.starts whole.start (omega (arith, size, whole.many)) in
        record { start = whole.start; count = t.large whole.start; at = whole.at; size = whole.size; low = bounds.0; high = omega (arith, bounds.1, size) };
    clear = λ root range s c k named large is low high meets.
        let whole = large_kind root range named large in
        let size = granules_at-large t whole.start whole.no_slab in
        let here = slab s c is in
        let same = extents.disjoint s whole.start k (Covers-slab t s k here low high) (record { low = omega (arith, meets.begins, meets.ends, whole.at, whole.size); high = omega (arith, meets.ends, whole.at, whole.size, size) }) in
        omega (arith, whole.many, ap t.large same, extents.one_kind s here);
  }
