use Rattle.std.proofs.Common.{codes}
use Rattle.map_text.specs.Facts.{request_of}
use Rattle.map_svg.specs.Shapes.{line_end}
use Rattle.map_svg.specs.Arenas.{variant_words, heading}
use Rattle.map_svg.proofs.Texts.{then_text, then_word, last_text}
use Rattle.map_svg.proofs.arenas.write_heading.Goals as goal

pub returns : goal.returns
unfolding heading
returns c =
    let o = c.args.out.now.items in
    let t0 = then_word o _ (codes "arena ") c.from.result c.args.arena c.from.ensures c.in_ok-begin_line.ensures c.in_ok-write_word.ensures.text in
    let variant = then_text o _ (variant_words c.args.facts.now.variant) t0 c.in_ok-write_variant.ensures in
    let t1 = then_word o _ (codes ": version ") c.from-2.result c.args.facts.now.version c.from-2.ensures variant c.in_ok-write_word-2.ensures.text in
    let t2 = then_word o _ (codes "; granules: ") c.from-3.result c.args.facts.now.granules c.from-3.ensures t1 c.in_ok-write_word-3.ensures.text in
    let t3 = then_word o _ (codes ", free: ") c.from-4.result c.args.facts.now.free c.from-4.ensures t2 c.in_ok-write_word-4.ensures.text in
    let t4 = then_word o _ (codes ", longest row of free ones: ") c.from-5.result c.args.facts.now.longest c.from-5.ensures t3 c.in_ok-write_word-5.ensures.text in
    let t5 = then_word o _ (codes "; largest request of whole granules: ") c.request_of.result (request_of c.args.facts.now.longest) c.request_of.ensures t4 c.in_ok-write_word-6.ensures.text in
    let t6 = then_text o _ (codes " bytes") t5 c.in_ok-write_bytes.ensures.text in
    last_text o c.end_line.new.out.items c.end_line.result _ line_end t6 c.end_line.ensures
