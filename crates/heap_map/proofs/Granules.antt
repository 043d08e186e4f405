-- What a granule is of, it is of alone: of a sound image of any variant no granule has two kinds.
use Rattle.std.proofs.Common.{◌≡◌, ◌*◌, ◌<◌, ◌≤◌, ℕ, true, List, refl, ap, subst, arith}
use Rattle.std.proofs.lemmas.Bool.{false_from_ne_true}
use Rattle.pool_layout.specs.Layout.{layout_of}
use Rattle.pool_layout.specs.Header.{version_in, granules_in}
use Rattle.pool_layout.proofs.Layouts.{layout_rules}
use Rattle.heap_check.specs.Sound.{granules_at, Covers, IsVacant, AreExtents}
use Rattle.heap_check.specs.Image.{bounds_of}
use Rattle.heap_check.proofs.Geometry.{granules_at-slab, granules_at-large, Covers-slab}
use Rattle.heap_map.specs.declared.cell.SlabFill.{SlabFill}
use Rattle.heap_map.specs.declared.cell.Kind.{Kind}
use Rattle.heap_map.specs.declared.cell.Kind.TheVariants.{Header, Roots, Log, Free, Large, Slab}
use Rattle.heap_map.specs.Rules.{MapRules}
use Rattle.heap_map.specs.Cells.{IsKind}

-- granules before the heap
before_heap : (words : List ℕ) (k : ℕ) → 16384 * k < (layout_of (version_in words)).log_at → k < (layout_of (version_in words)).first_granule
before_heap words k before = omega (arith, before, (layout_rules (version_in words)).heap)

-- The live extents of an arena of these words are disjoint and lie in its heap, which begins behind three granules at least; and it
-- has few granules.
pub record IsLaid (r : MapRules) (words : List ℕ) : Type 0 where
  pub extents : AreExtents (bounds_of words) (r.tables words).large (r.tables words).slab
  pub first : (4 ≤ (layout_of (version_in words)).first_granule) × ((layout_of (version_in words)).first_granule < granules_in words)
  pub few : granules_in words ≤ 4096

module _ (r : MapRules) (words : List ℕ) (laid : IsLaid r words) where
  -- a live large extent has its granules
  pub whole : (start : ℕ) → 0 < (r.tables words).large start → granules_at (r.tables words) start ≡ (r.tables words).large start
  whole start some = granules_at-large (r.tables words) start (false_from_ne_true ((r.tables words).slab start) (λ slab. omega (arith, some, laid.extents.one_kind start slab)))

  -- a granule that is vacant is free
  pub vacant_free : (k : ℕ) (kind : Kind) → IsKind r words k kind → IsVacant (bounds_of words) (r.tables words) k → kind ≡ Free
  vacant_free k Header is vacant = absurd (omega (arith, is, vacant.low, laid.first.0))
  vacant_free k Roots is vacant = absurd (omega (arith, before_heap words k is.1, vacant.low))
  vacant_free k Log is vacant = absurd (omega (arith, is.1, vacant.low))
  vacant_free k Free is vacant = refl
  vacant_free k (Large start) is vacant = absurd (vacant.none start is.1)
  vacant_free k (Slab fill) is vacant = absurd (vacant.none fill.slab.start is.1)

  -- a slab begins in the heap
  slab_late : (k : ℕ) → (r.tables words).slab k ≡ true → (layout_of (version_in words)).first_granule ≤ k
  slab_late k slab =
      let four = granules_at-slab (r.tables words) k slab in
      (laid.extents.starts k (omega (arith, four))).0

  slab_covers : (k : ℕ) → (r.tables words).slab k ≡ true → Covers (r.tables words) k k
  slab_covers k slab = Covers-slab (r.tables words) k k slab (omega arith) (omega arith)

  -- a granule at which a slab begins has that slab
  pub slab_kind : (k : ℕ) (kind : Kind) → IsKind r words k kind → (r.tables words).slab k ≡ true → (fill : SlabFill) × (kind ≡ Slab fill) × (fill.slab.start ≡ k)
  slab_kind k Header is slab = absurd (omega (arith, is, slab_late k slab, laid.first.0))
  slab_kind k Roots is slab = absurd (omega (arith, before_heap words k is.1, slab_late k slab))
  slab_kind k Log is slab = absurd (omega (arith, is.1, slab_late k slab))
  slab_kind k Free is slab = absurd (is.none k (slab_covers k slab))
  slab_kind k (Large start) is slab =
      let same : start ≡ k = laid.extents.disjoint start k k is.1 (slab_covers k slab) in
      absurd (omega (arith, is.0, ap (r.tables words).large same, laid.extents.one_kind k slab))
  slab_kind k (Slab fill) is slab = (fill, refl, laid.extents.disjoint fill.slab.start k k is.1 (slab_covers k slab))

  -- a granule at which a large extent begins has that
  pub large_kind : (k : ℕ) (kind : Kind) → IsKind r words k kind → 0 < (r.tables words).large k → kind ≡ Large k
  large_kind k kind is some = by kind is
    where
      covers : Covers (r.tables words) k k
      covers = record { low = omega arith; high = omega (arith, whole k some, some) }

      late : (layout_of (version_in words)).first_granule ≤ k
      late = (laid.extents.starts k (omega (arith, whole k some, some))).0

      by : (kind : Kind) → IsKind r words k kind → kind ≡ Large k
      by Header is = absurd (omega (arith, is, late, laid.first.0))
      by Roots is = absurd (omega (arith, before_heap words k is.1, late))
      by Log is = absurd (omega (arith, is.1, late))
      by Free is = absurd (is.none k covers)
      by (Large start) is = ap (λ s. Large s) (laid.extents.disjoint start k k is.1 covers)
      by (Slab fill) is =
          let same : fill.slab.start ≡ k = laid.extents.disjoint fill.slab.start k k is.1 covers in
          absurd (omega (arith, some, laid.extents.one_kind k (subst (λ s. (r.tables words).slab s ≡ true) same is.0.slab)))

  -- the first granule has the header line
  pub first_kind : (kind : Kind) → IsKind r words 0 kind → kind ≡ Header
  first_kind kind is = by kind is
    where
      late : 4 ≤ (layout_of (version_in words)).first_granule
      late = laid.first.0

      log : 0 < (layout_of (version_in words)).log_at
      log = omega (arith, (layout_rules (version_in words)).roots)

      begins : (start : ℕ) → Covers (r.tables words) start 0 → ⊥
      begins start covers = omega (arith, late, covers.low, (laid.extents.starts start (omega (arith, covers.high))).0)

      by : (kind : Kind) → IsKind r words 0 kind → kind ≡ Header
      by Header is = refl
      by Roots is = absurd (omega (arith, is.0))
      by Log is = absurd (omega (arith, is.0, log))
      by Free is = absurd (omega (arith, is.low, late))
      by (Large start) is = absurd (begins start is.1)
      by (Slab fill) is = absurd (begins fill.slab.start is.1)
