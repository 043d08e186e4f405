use Rattle.std.proofs.Common.{◌≡◌, ◌++◌, ◌∙◌, ap, arith}
use Rattle.heap_map.specs.Facts.{fill_in}
use Rattle.map_text.specs.Pieces.{text_below}
use Rattle.map_text.proofs.Pieces.{written_more}
use Rattle.map_svg.specs.Arenas.{class_entry, class_entries}
use Rattle.map_svg.proofs.arenas.write_classes.Goals as goal

pub loop-class-preserved : goal.loop-class-preserved
loop-class-preserved c =
    written_more (λ class. class_entry c.args.granules class (fill_in c.args.classes.now class)) c.loop-class.class c.args.out.now.items c.loop-class.out.items c.write_class.new.out.items c.loop-class.invariant c.in_ok-write_class.ensures

pub returns : goal.returns
unfolding class_entries
returns c =
    let all : c.loop-class.class ≡ 36 = omega (arith, c.loop-class-test.false) in
    c.loop-class.invariant ∙ ap (λ n. c.args.out.now.items ++ text_below (λ class. class_entry c.args.granules class (fill_in c.args.classes.now class)) n) all
