-- No cell of a sound image is loose exactly where the image is exact.
use Rattle.std.proofs.Common.{◌≡◌, ◌≢◌, ◌↔◌, ◌&&◌, ◌+◌, ◌*◌, ◌<◌, ◌≤◌, ℕ, true, false, true≢false, Bool, ltb, leb, eqb, List, length, refl, sym, subst, ◌∙◌, arith, ⊎_elim}
use Rattle.std.proofs.lemmas.Bool.{eqb-true, eq-eqb, ltb-true, lt-ltb, leb-true, le-leb, and_parts, and_from}
use Rattle.pool_layout.specs.Header.{granules_in}
use Rattle.image_tables.specs.Tables.{Tables}
use Rattle.heap_check.specs.Sound.{IsInSlab, IsLooseLarge, IsEmptySlab}
use Rattle.heap_check.specs.Image.{bounds_of}
use Rattle.defect_search.proofs.NoneLoose.{search_below}
use Rattle.gc_check.specs.Heap.{gc_tables}
use Rattle.gc_check.specs.Sound.{IsGcExact}
use Rattle.gc_check.specs.Image.{IsGcSoundImage, IsGcExactImage}
use Rattle.gc_check.proofs.RootWords.{whole}
use Rattle.gc_search.proofs.Marks.{held_below}
use Rattle.heap_map.specs.declared.cell.Cell.{Cell}
use Rattle.heap_map.specs.declared.cell.Kind.{Kind}
use Rattle.heap_map.specs.declared.cell.Kind.TheVariants.{Header, Roots, Log, Free, Large, Slab}
use Rattle.heap_map.specs.Cells.{HasOpen, IsLooseKind, cell_in, AreCells, AreNoneLoose}
use Rattle.heap_map.proofs.Exact.{not_both, clear_of}
use Rattle.heap_map.proofs.Granules.{slab_kind, large_kind}
use Rattle.gc_map.specs.GcRules.{roots_in, gc_rules}
use Rattle.gc_map.proofs.Premises.{laid}
use Rattle.gc_map.proofs.Slabs.{slab_lies}

-- no entry is ever open
pub closed : (words : List ℕ) → ¬ (HasOpen (gc_tables words).open_entry)
unfolding gc_tables
closed words opened = opened

module _ (words : List ℕ) (sound : IsGcSoundImage words) where
  abbrev t : Tables
  t = gc_tables words

  large_lies : (start : ℕ) → 0 < t.large start → (0 < start) × (start < granules_in words)
  large_lies start some =
      let size = whole sound.sound start some in
      let lies = sound.sound.extents.starts start (omega (arith, size, some)) in
      (omega (arith, lies.0, (laid words sound).first.0), omega (arith, lies.1, size, some))

  -- a root that holds something passes a test, where not all of them fail
  root_found : (test : ℕ → Bool) → ((root : ℕ) → test root ≡ true → t.root root ≢ 0) → ¬ ((root : ℕ) → test root ≡ false) → (root : ℕ) × (test root ≡ true)
  root_found test some not_all = ⊎_elim
      (λ found. (found.0, found.2))
      (λ none. absurd (not_all (λ root. fails root (test root) refl none)))
      (search_below test (roots_in words))
    where
      fails : (root : ℕ) (b : Bool) → test root ≡ b → ((k : ℕ) → k < roots_in words → test k ≡ false) → test root ≡ false
      fails root true is none = none root (held_below words root (some root is))
      fails root false is none = is

  named : (start : ℕ) → ¬ (IsLooseLarge t start) → 0 < t.large start → (root : ℕ) × (t.root root ≡ 16384 * start)
  named start held live =
      let found = root_found (λ root. eqb (t.root root) (16384 * start))
      (λ root is nothing. omega (arith, eqb-true (t.root root) (16384 * start) is, nothing, (large_lies start live).0))
      (λ none. held (record { live = live; unnamed = λ root here. true≢false (sym (eq-eqb (t.root root) (16384 * start) here) ∙ none root) })) in
      (found.0, eqb-true (t.root found.0) (16384 * start) found.1)

  abbrev lies_in : ℕ → ℕ → Bool
  lies_in start root = leb (16384 * start) (t.root root) && ltb (t.root root) (16384 * start + 65536)

  lived : (start : ℕ) → ¬ (IsEmptySlab t start) → t.slab start ≡ true → (root : ℕ) × (t.root root ≢ 0) × IsInSlab t start (t.root root)
  lived start held slab =
      let late = (slab_lies words sound start slab).0 in
      let low : (root : ℕ) → lies_in start root ≡ true → 16384 * start ≤ t.root root = λ root is. leb-true (16384 * start) (t.root root) (and_parts (leb (16384 * start) (t.root root)) (ltb (t.root root) (16384 * start + 65536)) is).0 in
      let found = root_found (lies_in start)
      (λ root is nothing. omega (arith, low root is, nothing, late))
      (λ none. held (record {
        slab = slab;
        none = λ root some inside.
            true≢false (sym (and_from (leb (16384 * start) (t.root root)) (ltb (t.root root) (16384 * start + 65536)) (le-leb (16384 * start) (t.root root) inside.low) (lt-ltb (t.root root) (16384 * start + 65536) inside.high)) ∙ none root);
      })) in
      let high = ltb-true (t.root found.0) (16384 * start + 65536) (and_parts (leb (16384 * start) (t.root found.0)) (ltb (t.root found.0) (16384 * start + 65536)) found.1).1 in
      (found.0, (λ nothing. omega (arith, low found.0 found.1, nothing, late)), record { slab = slab; low = low found.0 found.1; high = high })

module _ (words : List ℕ) (cells : List Cell) (sound : IsGcSoundImage words) (are : AreCells gc_rules words cells) where
  -- nothing of a granule is loose where no cell is
  none_at : AreNoneLoose cells → (k : ℕ) → k < granules_in words → ¬ (IsLooseKind gc_rules words (cell_in cells k).kind)
  none_at none k below =
      let inside : k < length cells = omega (arith, below, are.all) in
      not_both (cell_in cells k).loose (IsLooseKind gc_rules words (cell_in cells k).kind) (are.each k inside).loose (none k inside)

  slab_held : AreNoneLoose cells → (start : ℕ) → (gc_tables words).slab start ≡ true → ¬ (IsEmptySlab (gc_tables words) start)
  slab_held none start slab empty =
      let below : start < granules_in words = omega (arith, (slab_lies words sound start slab).1) in
      let found = slab_kind gc_rules words (laid words sound) start (cell_in cells start).kind (are.each start (omega (arith, below, are.all))).kind slab in
      none_at none start below (subst (IsLooseKind gc_rules words) (sym found.1) (subst (IsEmptySlab (gc_tables words)) (sym found.2) empty))

  large_held : AreNoneLoose cells → (start : ℕ) → 0 < (gc_tables words).large start → ¬ (IsLooseLarge (gc_tables words) start)
  large_held none start live loose =
      let below = (large_lies words sound start live).1 in
      let found = large_kind gc_rules words (laid words sound) start (cell_in cells start).kind (are.each start (omega (arith, below, are.all))).kind live in
      none_at none start below (subst (IsLooseKind gc_rules words) (sym found) loose)

  exact_of : AreNoneLoose cells → IsGcExactImage words
  exact_of none = record {
    formed = sound.formed;
    exact = record {
      sound = sound.sound;
      all_named = λ start live. named words sound start (large_held none start live) live;
      all_live = λ start slab. lived words sound start (slab_held none start slab) slab;
    };
  }

  -- nothing of an exact image is loose
  none_loose : IsGcExact (bounds_of words) (gc_tables words) → (kind : Kind) → ¬ (IsLooseKind gc_rules words kind)
  none_loose exact Header loose = closed words loose
  none_loose exact Roots loose = loose
  none_loose exact Log loose = loose
  none_loose exact Free loose = loose
  none_loose exact (Large start) loose = let root = exact.all_named start loose.live in loose.unnamed root.0 root.1
  none_loose exact (Slab fill) loose = let root = exact.all_live fill.slab.start loose.slab in loose.none root.0 root.1 root.2

  clear_cells : IsGcExactImage words → AreNoneLoose cells
  clear_cells image k below = clear_of (cell_in cells k).loose (IsLooseKind gc_rules words (cell_in cells k).kind) (are.each k below).loose (none_loose image.exact (cell_in cells k).kind)

  pub none_loose_exact : AreNoneLoose cells ↔ IsGcExactImage words
  none_loose_exact = (exact_of, clear_cells)
