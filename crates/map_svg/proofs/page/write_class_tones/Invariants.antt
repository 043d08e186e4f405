use Rattle.std.proofs.Common.{◌≡◌, ◌++◌}
use Rattle.map_text.specs.Pieces.{text_below}
use Rattle.map_svg.specs.Page.{class_tone}
use Rattle.map_svg.proofs.page.write_class_tones.Given as goal

abbrev pub invariant-loop-class : goal.invariant-loop-class
invariant-loop-class l = l.out.items ≡ l.fn.out.items ++ text_below class_tone l.class
