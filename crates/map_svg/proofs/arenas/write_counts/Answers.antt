use Rattle.std.proofs.Common.{codes}
use Rattle.map_svg.specs.Shapes.{line_end}
use Rattle.map_svg.specs.Arenas.{counts}
use Rattle.map_svg.proofs.Texts.{then_word, last_text}
use Rattle.map_svg.proofs.arenas.write_counts.Goals as goal

pub returns : goal.returns
unfolding counts
returns c =
    let o = c.args.out.now.items in
    let t0 = then_word o _ (codes "roots that hold a block: ") c.from.result c.args.facts.now.summary.blocks c.from.ensures c.in_ok-begin_line.ensures c.in_ok-write_word.ensures.text in
    let t1 = then_word o _ (codes "; large blocks: ") c.from-2.result c.args.facts.now.summary.large c.from-2.ensures t0 c.in_ok-write_word-2.ensures.text in
    let t2 = then_word o _ (codes "; slabs: ") c.from-3.result c.args.facts.now.summary.slabs c.from-3.ensures t1 c.in_ok-write_word-3.ensures.text in
    let t3 = then_word o _ (codes ", in transition: ") c.from-4.result c.args.facts.now.transitions c.from-4.ensures t2 c.in_ok-write_word-4.ensures.text in
    let t4 = then_word o _ (codes "; loose things: ") c.from-5.result c.args.facts.now.summary.loose c.from-5.ensures t3 c.in_ok-write_word-5.ensures.text in
    last_text o c.end_line.new.out.items c.end_line.result _ line_end t4 c.end_line.ensures
