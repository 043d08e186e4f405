use Rattle.std.proofs.Common.{◌≡◌, ◌≤◌, ◌++◌}
use Rattle.map_text.specs.Pieces.{text_below}
use Rattle.map_svg.specs.Rows.{row_before, row_mark}
use Rattle.map_svg.proofs.rows.write_row_marks.Given as goal

abbrev pub invariant-loop-granule : goal.invariant-loop-granule
invariant-loop-granule l = record {
  row : l.row ≡ row_before l.cells l.granule;
  few : l.row ≤ l.granule;
  text : l.out.items ≡ l.fn.out.items ++ text_below (row_mark l.cells l.longest) l.granule;
}
