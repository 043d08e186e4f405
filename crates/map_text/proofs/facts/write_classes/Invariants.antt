use Rattle.std.proofs.Common.{◌≡◌, ◌++◌}
use Rattle.heap_map.specs.Facts.{fill_in}
use Rattle.map_text.specs.Pieces.{text_below}
use Rattle.map_text.specs.Facts.{class_line}
use Rattle.map_text.proofs.facts.write_classes.Given as goal

abbrev pub invariant-loop-class : goal.invariant-loop-class
invariant-loop-class l = l.out.items ≡ l.fn.out.items ++ text_below (λ class. class_line l.arena class (fill_in l.classes class)) l.class
