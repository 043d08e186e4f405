-- What was counted in the cells of an arena, of its tables.
use Rattle.std.proofs.Common.{◌≡◌, ◌<◌, ℕ, true, List, length, sym, subst, arith}
use Rattle.pool_layout.specs.Header.{granules_in}
use Rattle.heap_check.specs.Sound.{IsVacant}
use Rattle.heap_check.specs.Image.{bounds_of}
use Rattle.heap_check.proofs.Geometry.{granules_at-slab}
use Rattle.image_defects.specs.Count.{IsCount}
use Rattle.heap_map.specs.declared.cell.Cell.{Cell}
use Rattle.heap_map.specs.declared.cell.Kind.TheVariants.{Slab}
use Rattle.heap_map.specs.Rules.{MapRules}
use Rattle.heap_map.specs.Cells.{IsKind, cell_in, AreCells, IsFreeCell, IsTurningCell}
use Rattle.heap_map.specs.Facts.{IsLongestRow, IsInTransition}
use Rattle.heap_map.proofs.Granules.{IsLaid, vacant_free, slab_kind}
use Rattle.heap_map.proofs.SlabFills.{count_same}

longest_same : (P Q : ℕ → Type 0) (longest : ℕ) → ((k : ℕ) → P k → Q k) → ((k : ℕ) → Q k → P k) → IsLongestRow P longest → IsLongestRow Q longest
longest_same P Q longest to from is = record {
  start = is.start;
  row = record { each = λ k low high. to k (is.row.each k low high) };
  most = λ other long row. is.most other long (record { each = λ k low high. from k (row.each k low high) });
}

module _ (r : MapRules) (words : List ℕ) (cells : List Cell) (laid : IsLaid r words) (are : AreCells r words cells) where
  free_vacant : (k : ℕ) → IsFreeCell cells k → IsVacant (bounds_of words) (r.tables words) k
  free_vacant k is = subst (IsKind r words k) is.free (are.each k is.inside).kind

  vacant_cell : (k : ℕ) → IsVacant (bounds_of words) (r.tables words) k → IsFreeCell cells k
  vacant_cell k vacant =
      let inside : k < length cells = omega (arith, vacant.high, are.all) in
      record { inside = inside; free = vacant_free r words laid k (cell_in cells k).kind (are.each k inside).kind vacant }

  pub free_told : (n : ℕ) → IsCount (IsFreeCell cells) (length cells) n → IsCount (IsVacant (bounds_of words) (r.tables words)) (granules_in words) n
  free_told n is = subst (λ all. IsCount (IsVacant (bounds_of words) (r.tables words)) all n) are.all (count_same (IsFreeCell cells) (IsVacant (bounds_of words) (r.tables words)) (length cells) n free_vacant vacant_cell is)

  pub longest_told : (n : ℕ) → IsLongestRow (IsFreeCell cells) n → IsLongestRow (IsVacant (bounds_of words) (r.tables words)) n
  longest_told n = longest_same (IsFreeCell cells) (IsVacant (bounds_of words) (r.tables words)) n free_vacant vacant_cell

  turning_slab : (k : ℕ) → IsTurningCell cells k → IsInTransition r words k
  turning_slab k is =
      let kind : IsKind r words k (Slab is.fill) = subst (IsKind r words k) is.kind (are.each k is.inside).kind in
      record {
        slab = subst (λ s. (r.tables words).slab s ≡ true) is.begins kind.0.slab;
        turns = subst (r.Turns words) is.begins (kind.0.turns.0 is.turns);
      }

  turning_cell : (k : ℕ) → IsInTransition r words k → IsTurningCell cells k
  turning_cell k is =
      let four = granules_at-slab (r.tables words) k is.slab in
      let inside : k < length cells = omega (arith, four, (laid.extents.starts k (omega (arith, four))).1, are.all) in
      let found = slab_kind r words laid k (cell_in cells k).kind (are.each k inside).kind is.slab in
      let kind : IsKind r words k (Slab found.0) = subst (IsKind r words k) found.1 (are.each k inside).kind in
      record { inside = inside; fill = found.0; kind = found.1; begins = found.2; turns = kind.0.turns.1 (subst (r.Turns words) (sym found.2) is.turns) }

  pub turning_told : (n : ℕ) → IsCount (IsTurningCell cells) (length cells) n → IsCount (IsInTransition r words) (granules_in words) n
  turning_told n is = subst (λ all. IsCount (IsInTransition r words) all n) are.all (count_same (IsTurningCell cells) (IsInTransition r words) (length cells) n turning_slab turning_cell is)
