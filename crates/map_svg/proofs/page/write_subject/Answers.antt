use Rattle.std.proofs.Common.{codes}
use Rattle.map_svg.specs.Page.{subject}
use Rattle.map_svg.proofs.Texts.{first_word, last_word}
use Rattle.map_svg.proofs.page.write_subject.Goals as goal

pub returns : goal.returns
unfolding subject
returns c =
    let o = c.args.out.now.items in
    let t0 = first_word o (codes "Map of a pool. Arenas: ") c.from.result c.args.arenas c.from.ensures c.in_ok-write_word.ensures.text in
    last_word o c.write_word-2.new.out.items c.write_word-2.result _ (codes ". Granules of 16 KiB in each: ") c.from-2.result c.args.granules c.from-2.ensures t0 c.write_word-2.ensures.text
