use Rattle.std.proofs.Common.{◌≡◌, ◌++◌, ◌∙◌, length, ap, arith}
use Rattle.heap_map.specs.Cells.{cell_in}
use Rattle.map_text.specs.Pieces.{text_below}
use Rattle.map_text.proofs.Pieces.{written_more}
use Rattle.map_svg.specs.Cells.{cell_boxes, row_of_boxes}
use Rattle.map_svg.proofs.cells.write_cells.Goals as goal

pub loop-granule-preserved : goal.loop-granule-preserved
loop-granule-preserved c =
    written_more (λ k. cell_boxes k (cell_in c.args.cells.now k)) c.loop-granule.granule c.args.out.now.items c.loop-granule.out.items c.write_cell.new.out.items c.loop-granule.invariant c.in_ok-write_cell.ensures

pub returns : goal.returns
unfolding row_of_boxes
returns c =
    let all : c.loop-granule.granule ≡ length c.args.cells.now = omega (arith, c.loop-granule-test.false) in
    c.loop-granule.invariant ∙ ap (λ n. c.args.out.now.items ++ text_below (λ k. cell_boxes k (cell_in c.args.cells.now k)) n) all
