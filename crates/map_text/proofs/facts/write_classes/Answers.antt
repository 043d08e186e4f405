use Rattle.std.proofs.Common.{◌≡◌, ◌++◌, ◌∙◌, ap, arith}
use Rattle.heap_map.specs.Facts.{fill_in}
use Rattle.map_text.specs.Pieces.{text_below}
use Rattle.map_text.specs.Facts.{class_line, class_lines}
use Rattle.map_text.proofs.Pieces.{written_more}
use Rattle.map_text.proofs.facts.write_classes.Goals as goal

pub loop-class-preserved : goal.loop-class-preserved
loop-class-preserved c =
    written_more (λ class. class_line c.args.arena class (fill_in c.args.classes.now class)) c.loop-class.class c.args.out.now.items c.loop-class.out.items c.write_class.new.out.items c.loop-class.invariant c.in_ok-write_class.ensures

pub returns : goal.returns
unfolding class_lines
returns c =
    let all : c.loop-class.class ≡ 36 = omega (arith, c.loop-class-test.false) in
    c.loop-class.invariant ∙ ap (λ n. c.args.out.now.items ++ text_below (λ class. class_line c.args.arena class (fill_in c.args.classes.now class)) n) all
