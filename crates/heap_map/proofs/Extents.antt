-- The extents of a sound image of any variant, one granule after another.
use Rattle.std.proofs.Common.{◌≡◌, ◌≢◌, ◌↔◌, ◌+◌, ◌<◌, ◌≤◌, ℕ, List, [], ◌∷◌, ◌++◌, length, sym, ap, subst, ◌∙◌, arith, ⊎_elim, IsTrue}
use Rattle.std.proofs.Math.ListN.{length-append}
use Rattle.std.proofs.Math.Seq.{get_or-append_seam}
use Rattle.std.proofs.lemmas.Bool.{cases_eq, cases_lt}
use Rattle.std.proofs.lemmas.List.{get_or_append_left}
use Rattle.heap_check.specs.Sound.{granules_at, Covers, AreExtents}
use Rattle.heap_check.specs.Image.{bounds_of}
use Rattle.heap_map.specs.declared.cell.Cell.{Cell}
use Rattle.heap_map.specs.declared.scanning.Scan.{Scan}
use Rattle.heap_map.specs.Rules.{MapRules}
use Rattle.heap_map.specs.Cells.{IsKind, IsLooseKind, IsCell, no_cell, cell_in}
use Rattle.heap_map.specs.Scans.{IsExtentCell, IsScan, AreCellsBelow}

-- nothing was gone over
pub scan_none : (r : MapRules) (words : List ℕ) (cell : Cell) → IsScan r words 0 (record { cell = cell; end = 0 })
scan_none r words cell = record { inside = omega arith; ended = λ start below. absurd (omega arith); cell = λ k from below. absurd (omega arith) }

module _ (r : MapRules) (words : List ℕ) (extents : AreExtents (bounds_of words) (r.tables words).large (r.tables words).slab) where
  -- an extent begins at a granule
  pub scan_begins : (k : ℕ) (scan : Scan) (cell : Cell) (granules : ℕ) → IsScan r words k scan → granules ≡ granules_at (r.tables words) k → 0 < granules → IsExtentCell r words k cell → IsScan r words (k + 1) (record { cell = cell; end = k + granules })
  scan_begins k scan cell granules is size some extent =
      let t = r.tables words in
      let whole : Covers t k k = record { low = omega arith; high = omega (arith, size, some) } in
      record {
        inside = omega (arith, size, (extents.starts k (omega (arith, size, some))).1);
        ended = λ start below live. ⊎_elim
            (λ (same : start ≡ k). omega (arith, same, size, ap (granules_at t) same))
            (λ (other : start ≢ k). ⊎_elim
            (λ (over : k < start + granules_at t start). absurd (other (extents.disjoint start k k (record { low = omega (arith, below); high = over }) whole)))
            (λ (ends : start + granules_at t start ≤ k). omega (arith, ends))
            (cases_lt k (start + granules_at t start)))
            (cases_eq start k);
        cell = λ j from below. extent.each j (record { low = omega (arith, from); high = omega (arith, below, size) });
      }

  -- none does
  pub scan_goes : (k : ℕ) (scan : Scan) → IsScan r words k scan → granules_at (r.tables words) k ≡ 0 → IsScan r words (k + 1) scan
  scan_goes k scan is none = record {
    inside = is.inside;
    ended = λ start below live. ⊎_elim
        (λ (same : start ≡ k). absurd (omega (arith, live, ap (granules_at (r.tables words)) same, none)))
        (λ (other : start ≢ k). is.ended start (omega (arith, below, other)) live)
        (cases_eq start k);
    cell = λ j from below. is.cell j (omega (arith, from)) below;
  }

-- a cell of the extent that begins at a start, by what it says
pub extent_cell : (r : MapRules) (words : List ℕ) (start : ℕ) (cell : Cell) → ((k : ℕ) → Covers (r.tables words) start k → IsKind r words k cell.kind) → (IsTrue cell.loose ↔ IsLooseKind r words cell.kind) → IsExtentCell r words start cell
extent_cell r words start cell kind loose = record { each = λ k covers. record { kind = kind k covers; loose = loose } }

-- one cell more
pub cells_more : (r : MapRules) (words : List ℕ) (n : ℕ) (cells new : List Cell) (cell : Cell) → AreCellsBelow r words n cells → IsCell r words n cell → new ≡ cells ++ cell ∷ [] → AreCellsBelow r words (n + 1) new
cells_more r words n cells new cell are is more = record {
  all = ap length more ∙ length-append cells (cell ∷ []) ∙ omega (arith, are.all);
  each = λ k below. subst (λ (cs : List Cell). IsCell r words k (cell_in cs k)) (sym more) (⊎_elim
      (λ (same : k ≡ n).
      let last : cell_in (cells ++ cell ∷ []) k ≡ cell = ap (cell_in (cells ++ cell ∷ [])) (same ∙ sym are.all) ∙ get_or-append_seam cells cell [] no_cell in
      subst (IsCell r words k) (sym last) (subst (λ m. IsCell r words m cell) (sym same) is))
      (λ (other : k ≢ n).
      let low : k < n = omega (arith, below, other) in
      subst (IsCell r words k) (sym (get_or_append_left cells (cell ∷ []) no_cell k (omega (arith, low, are.all)))) (are.each k low))
      (cases_eq k n));
}
