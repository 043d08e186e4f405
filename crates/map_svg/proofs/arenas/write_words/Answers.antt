use Rattle.std.proofs.Common.{◌*◌, ◌∙◌, codes}
use Rattle.size_classes.specs.Classes.{class_size, class_capacity}
use Rattle.map_svg.proofs.Texts.{first_number, then_word, last_word}
use Rattle.map_svg.proofs.arenas.write_words.Goals as goal

pub returns : goal.returns
returns c =
    let o = c.args.out.now.items in
    let t0 = first_number o c.from.result (class_size c.args.class) (c.from.ensures ∙ c.size_of_class.ensures.size) c.in_ok-write_number.ensures.text in
    let t1 = then_word o _ (codes " bytes: slabs ") c.from-2.result c.args.fill.slabs c.from-2.ensures t0 c.in_ok-write_word.ensures.text in
    let t2 = then_word o _ (codes ", live ") c.from-3.result c.args.fill.live c.from-3.ensures t1 c.in_ok-write_word-2.ensures.text in
    let t3 = then_word o _ (codes " of ") (c.from-4.result * c.from-5.result) (c.args.fill.slabs * class_capacity c.args.class) (cc (c.from-4.ensures, c.from-5.ensures, c.capacity.ensures.count)) t2 c.in_ok-write_word-3.ensures.text in
    last_word o c.write_word-4.new.out.items c.write_word-4.result _ (codes ", old ") c.from-6.result c.args.fill.old c.from-6.ensures t3 c.write_word-4.ensures.text
