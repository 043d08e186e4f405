use Rattle.std.proofs.Common.{◌≡◌, ◌∷◌, ◌++◌, ◌∙◌, length, ap, arith}
use Rattle.heap_map.specs.Cells.{cell_in}
use Rattle.map_text.specs.Pieces.{text_below}
use Rattle.map_text.specs.Drawing.{gap_before, letter_of, gap_behind, drawing}
use Rattle.map_text.proofs.Pieces.{written_more}
use Rattle.map_text.proofs.drawing.write_drawing.Goals as goal

pub loop-granule-preserved : goal.loop-granule-preserved
loop-granule-preserved c =
    written_more (λ k. gap_before k ++ letter_of k (cell_in c.args.cells.now k) ∷ gap_behind (length c.args.cells.now) k) c.loop-granule.granule c.args.out.now.items c.loop-granule.out.items c.write_cell.new.out.items
    c.loop-granule.invariant c.in_ok-write_cell.ensures

pub returns : goal.returns
unfolding drawing
returns c =
    let all : c.loop-granule.granule ≡ length c.args.cells.now = omega (arith, c.loop-granule-test.false) in
    c.loop-granule.invariant ∙ ap (λ n. c.args.out.now.items ++ text_below (λ k. gap_before k ++ letter_of k (cell_in c.args.cells.now k) ∷ gap_behind (length c.args.cells.now) k) n) all
