use Rattle.std.proofs.Common.{◌≡◌, ◌++◌, ◌∙◌, length, ap, sym, add-one, arith}
use Rattle.map_text.specs.Pieces.{text_below}
use Rattle.map_text.proofs.Pieces.{written_more}
use Rattle.map_svg.specs.Rows.{row_before, row_mark, row_marks}
use Rattle.map_svg.proofs.rows.write_row_marks.Goals as goal

pub loop-granule-preserved : goal.loop-granule-preserved
loop-granule-preserved c = record {
  row = c.with_granule-row.ensures.row ∙ ap (row_before c.args.cells.now) (sym (add-one c.loop-granule.granule));
  few = c.with_granule-row.ensures.few;
  text = written_more (row_mark c.args.cells.now c.args.longest) c.loop-granule.granule c.args.out.now.items c.loop-granule.out.items c.write_mark.new.out.items c.loop-granule.invariant.text c.in_ok-write_mark.ensures;
}

pub returns : goal.returns
unfolding row_marks
returns c =
    let all : c.loop-granule.granule ≡ length c.args.cells.now = omega (arith, c.loop-granule-test.false) in
    c.loop-granule.invariant.text ∙ ap (λ n. c.args.out.now.items ++ text_below (row_mark c.args.cells.now c.args.longest) n) all
