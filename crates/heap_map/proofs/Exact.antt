-- No cell of a sound image is loose exactly where the image is exact.
use Rattle.std.proofs.Common.{◌≡◌, ◌↔◌, ◌<◌, ℕ, true, false, true≢false, Bool, List, length, Option, Some, None, refl, sym, subst, ◌∙◌, arith, inl, inr, IsTrue}
use Rattle.pool_layout.specs.Header.{granules_in}
use Rattle.image_tables.specs.declared.entry.WalEntry.{WalEntry}
use Rattle.image_tables.specs.Tables.{Tables, tables_of}
use Rattle.heap_check.specs.Sound.{IsLooseLarge, IsExact}
use Rattle.heap_check.specs.Image.{bounds_of, IsSoundImage, IsExactImage}
use Rattle.heap_check.proofs.Geometry.{granules_at-slab, granules_at-live}
use Rattle.heap_check.proofs.Sizes.{sizes_of}
use Rattle.defect_search.proofs.NoneLoose.{exact_by_none}
use Rattle.heap_map.specs.declared.cell.Cell.{Cell}
use Rattle.heap_map.specs.declared.cell.Kind.{Kind}
use Rattle.heap_map.specs.declared.cell.Kind.TheVariants.{Header, Roots, Log, Free, Large, Slab}
use Rattle.heap_map.specs.LogRules.{log_rules}
use Rattle.heap_map.specs.Cells.{HasOpen, IsLooseSlab, IsLooseKind, cell_in, AreCells, AreNoneLoose}
use Rattle.heap_map.proofs.Granules.{slab_kind, large_kind, first_kind}
use Rattle.heap_map.proofs.Premises.{laid}

no_open : (e : Option WalEntry) → ¬ (HasOpen e) → e ≡ None
no_open None none = refl
no_open (Some entry) none = absurd (none tt)

closed_none : (e : Option WalEntry) → e ≡ None → ¬ (HasOpen e)
closed_none None is open_entry = open_entry
closed_none (Some entry) is open_entry = absurd (cc)

-- a flag that is set is not clear
pub not_both : (b : Bool) (P : Type 0) → (IsTrue b ↔ P) → b ≡ false → ¬ P
not_both b P is clear holds = true≢false (sym (is.1 holds) ∙ clear)

pub clear_of : (b : Bool) (P : Type 0) → (IsTrue b ↔ P) → ¬ P → b ≡ false
clear_of true P is none = absurd (none (is.0 refl))
clear_of false P is none = refl

module _ (words : List ℕ) (cells : List Cell) (sound : IsSoundImage words) (are : AreCells log_rules words cells) where
  t : Tables
  t = tables_of words

  -- nothing of a granule is loose where no cell is
  none_at : AreNoneLoose cells → (k : ℕ) → k < granules_in words → ¬ (IsLooseKind log_rules words (cell_in cells k).kind)
  none_at none k below =
      let inside : k < length cells = omega (arith, below, are.all) in
      not_both (cell_in cells k).loose (IsLooseKind log_rules words (cell_in cells k).kind) (are.each k inside).loose (none k inside)

  slab_inside : (start : ℕ) → (tables_of words).slab start ≡ true → start < granules_in words
  slab_inside start slab =
      let four = granules_at-slab (tables_of words) start slab in
      omega (arith, four, (sound.sound.extents.starts start (omega (arith, four))).1)

  large_inside : (start : ℕ) → 0 < (tables_of words).large start → start < granules_in words
  large_inside start some =
      let whole = granules_at-live sound.sound start some in
      omega (arith, whole, some, (sound.sound.extents.starts start (omega (arith, whole, some))).1)

  -- a slab that begins at a granule is loose where the kind of the granule is
  slab_clear : AreNoneLoose cells → (start : ℕ) → (tables_of words).slab start ≡ true → ¬ (IsLooseSlab (tables_of words) start)
  slab_clear none start slab loose =
      let below = slab_inside start slab in
      let found = slab_kind log_rules words (laid words sound) start (cell_in cells start).kind (are.each start (omega (arith, below, are.all))).kind slab in
      none_at none start below (subst (IsLooseKind log_rules words) (sym found.1) (subst (IsLooseSlab (tables_of words)) (sym found.2) loose))

  large_clear : AreNoneLoose cells → (start : ℕ) → ¬ (IsLooseLarge (tables_of words) start)
  large_clear none start loose =
      let below = large_inside start loose.live in
      let found = large_kind log_rules words (laid words sound) start (cell_in cells start).kind (are.each start (omega (arith, below, are.all))).kind loose.live in
      none_at none start below (subst (IsLooseKind log_rules words) (sym found) loose)

  header_clear : AreNoneLoose cells → ¬ (HasOpen (tables_of words).open_entry)
  header_clear none opened =
      let below : 0 < granules_in words = omega (arith, (sizes_of words sound.formed).least) in
      let found = first_kind log_rules words (laid words sound) (cell_in cells 0).kind (are.each 0 (omega (arith, below, are.all))).kind in
      none_at none 0 below (subst (IsLooseKind log_rules words) (sym found) opened)

  exact_of : AreNoneLoose cells → IsExactImage words
  exact_of none =
      exact_by_none words sound (no_open (tables_of words).open_entry (header_clear none))
      (record { none = λ start loose. large_clear none start loose })
      (record { none = λ start loose. slab_clear none start loose.slab (inl loose) })
      (record { none = λ start loose. slab_clear none start loose.slab (inr (inl loose)) })
      (record { none = λ start loose. slab_clear none start loose.slab (inr (inr loose)) })

  -- nothing of an exact image is loose
  none_loose : IsExact (bounds_of words) (tables_of words) → (kind : Kind) → ¬ (IsLooseKind log_rules words kind)
  none_loose exact Header opened = closed_none (tables_of words).open_entry exact.closed opened
  none_loose exact Roots loose = loose
  none_loose exact Log loose = loose
  none_loose exact Free loose = loose
  none_loose exact (Large start) loose = let root = exact.all_named start loose.live in loose.unnamed root.0 root.1
  none_loose exact (Slab fill) loose = slab_of loose
    where
      slab_of : IsLooseSlab (tables_of words) fill.slab.start → ⊥
      slab_of (inl empty) = let root = exact.all_live fill.slab.start empty.slab in empty.none root.0 root.1 root.2
      slab_of (inr (inl morphing)) = exact.none_morphing fill.slab.start morphing
      slab_of (inr (inr done)) = exact.none_done fill.slab.start done

  clear_cells : IsExactImage words → AreNoneLoose cells
  clear_cells image k below = clear_of (cell_in cells k).loose (IsLooseKind log_rules words (cell_in cells k).kind) (are.each k below).loose (none_loose image.exact (cell_in cells k).kind)

  pub none_loose_exact : AreNoneLoose cells ↔ IsExactImage words
  none_loose_exact = (exact_of, clear_cells)
