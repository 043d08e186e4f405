use Rattle.std.proofs.Common.{[], ◌∷◌, codes}
use Rattle.map_svg.specs.Shapes.{box_text}
use Rattle.map_svg.proofs.Texts.{first_word, then_word, last_line}
use Rattle.map_svg.proofs.shapes.write_box.Goals as goal

pub returns : goal.returns
unfolding box_text
returns c =
    let o = c.args.out.now.items in
    let t0 = first_word o (codes "<rect class='k") c.from.result c.args.shape.tone c.from.ensures c.in_ok-write_word.ensures.text in
    let t1 = then_word o _ (codes "' x='") c.from-2.result c.args.shape.x c.from-2.ensures t0 c.in_ok-write_word-2.ensures.text in
    let t2 = then_word o _ (codes "' y='") c.from-3.result c.args.shape.y c.from-3.ensures t1 c.in_ok-write_word-3.ensures.text in
    let t3 = then_word o _ (codes "' width='") c.from-4.result c.args.shape.width c.from-4.ensures t2 c.in_ok-write_word-4.ensures.text in
    let t4 = then_word o _ (codes "' height='") c.from-5.result c.args.shape.height c.from-5.ensures t3 c.in_ok-write_word-5.ensures.text in
    last_line o c.write_bytes.new.out.items c.write_bytes.result _ (codes "'/>") (10 ∷ []) t4 c.write_bytes.ensures.text
