-- The slabs of cells have classes.
use Rattle.std.proofs.Common.{◌≡◌, ◌≤◌, ℕ, ◌<◌, List, length}
use Rattle.heap_map.specs.declared.cell.Cell.{Cell}
use Rattle.heap_map.specs.declared.cell.Kind.{Kind}
use Rattle.heap_map.specs.declared.cell.Kind.TheVariants.{Header, Roots, Log, Free, Large, Slab}
use Rattle.heap_map.specs.declared.mapping.HeapMap.{HeapMap}
use Rattle.heap_map.specs.Rules.{MapRules}
use Rattle.heap_map.specs.Cells.{IsKind, cell_in, AreCells}
use Rattle.heap_map.specs.Facts.{AreClassFills}
use Rattle.map_text.specs.Drawing.{HasKindClass, HaveClasses}
use Rattle.map_text.specs.Maps.{IsWritable}

module _ (r : MapRules) (words : List ℕ) where
  kind_class : (k : ℕ) (kind : Kind) → IsKind r words k kind → HasKindClass kind
  kind_class k Header is = tt
  kind_class k Roots is = tt
  kind_class k Log is = tt
  kind_class k Free is = tt
  kind_class k (Large start) is = tt
  kind_class k (Slab fill) is = is.0.state.valid.is_class

  cells_classes : (cells : List Cell) → AreCells r words cells → HaveClasses cells
  cells_classes cells are = record { each = λ k below. kind_class k (cell_in cells k).kind (are.each k below).kind }

  -- so a map of few granules can be written
  pub writable : (map : HeapMap) → length map.cells.items ≤ 4096 → map.facts.granules ≤ 4096 → AreCells r words map.cells.items → AreClassFills r words map.classes.items → IsWritable map
  writable map few granules cells fills = record { few = few; granules = granules; cells = cells_classes map.cells.items cells; classes = fills.all }
