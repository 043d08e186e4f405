use Rattle.std.proofs.Common.{◌≡◌, ◌++◌}
use Rattle.heap_map.specs.Cells.{cell_in}
use Rattle.map_text.specs.Pieces.{text_below}
use Rattle.map_svg.specs.Cells.{cell_boxes}
use Rattle.map_svg.proofs.cells.write_cells.Given as goal

abbrev pub invariant-loop-granule : goal.invariant-loop-granule
invariant-loop-granule l = l.out.items ≡ l.fn.out.items ++ text_below (λ k. cell_boxes k (cell_in l.cells k)) l.granule
