use Rattle.std.proofs.Common.{◌≡◌, ◌++◌}
use Rattle.heap_map.specs.Cells.{cell_in}
use Rattle.map_text.specs.Pieces.{text_below}
use Rattle.map_svg.specs.Cells.{kind_label}
use Rattle.map_svg.proofs.cells.write_labels.Given as goal

abbrev pub invariant-loop-granule : goal.invariant-loop-granule
invariant-loop-granule l = l.out.items ≡ l.fn.out.items ++ text_below (λ k. kind_label k (cell_in l.cells k).kind) l.granule
