use Rattle.std.proofs.Common.{◌≡◌, ◌++◌, ◌∙◌, ap, arith}
use Rattle.map_text.specs.Pieces.{text_below}
use Rattle.map_text.proofs.Pieces.{written_more}
use Rattle.map_svg.specs.Page.{class_tone, class_tones}
use Rattle.map_svg.proofs.page.write_class_tones.Goals as goal

pub loop-class-preserved : goal.loop-class-preserved
loop-class-preserved c = written_more class_tone c.loop-class.class c.args.out.now.items c.loop-class.out.items c.write_class_tone.new.out.items c.loop-class.invariant c.in_ok-write_class_tone.ensures

pub returns : goal.returns
unfolding class_tones
returns c =
    let all : c.loop-class.class ≡ 36 = omega (arith, c.loop-class-test.false) in
    c.loop-class.invariant ∙ ap (λ n. c.args.out.now.items ++ text_below class_tone n) all
