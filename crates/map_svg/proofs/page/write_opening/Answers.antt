use Rattle.std.proofs.Common.{[], ◌∷◌, codes}
use Rattle.map_svg.specs.Page.{opening}
use Rattle.map_svg.proofs.Texts.{first_word, then_word, last_line}
use Rattle.map_svg.proofs.page.write_opening.Goals as goal

pub returns : goal.returns
unfolding opening
returns c =
    let o = c.args.out.now.items in
    let t0 = first_word o (codes "<svg xmlns='http://www.w3.org/2000/svg' role='img' width='1088' height='") c.from.result c.args.height c.from.ensures c.in_ok-write_word.ensures.text in
    let t1 = then_word o _ (codes "' viewBox='0 0 1088 ") c.from-2.result c.args.height c.from-2.ensures t0 c.in_ok-write_word-2.ensures.text in
    last_line o c.write_bytes.new.out.items c.write_bytes.result _ (codes "'>") (10 ∷ []) t1 c.write_bytes.ensures.text
