use Rattle.std.proofs.Common.{◌≡◌, ◌∷◌, ◌++◌, length}
use Rattle.heap_map.specs.Cells.{cell_in}
use Rattle.map_text.specs.Pieces.{text_below}
use Rattle.map_text.specs.Drawing.{gap_before, letter_of, gap_behind}
use Rattle.map_text.proofs.drawing.write_drawing.Given as goal

abbrev pub invariant-loop-granule : goal.invariant-loop-granule
invariant-loop-granule l = l.out.items ≡ l.fn.out.items ++ text_below (λ k. gap_before k ++ letter_of k (cell_in l.cells k) ∷ gap_behind (length l.cells) k) l.granule
