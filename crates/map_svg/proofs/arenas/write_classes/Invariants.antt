use Rattle.std.proofs.Common.{◌≡◌, ◌++◌}
use Rattle.heap_map.specs.Facts.{fill_in}
use Rattle.map_text.specs.Pieces.{text_below}
use Rattle.map_svg.specs.Arenas.{class_entry}
use Rattle.map_svg.proofs.arenas.write_classes.Given as goal

abbrev pub invariant-loop-class : goal.invariant-loop-class
invariant-loop-class l = l.out.items ≡ l.fn.out.items ++ text_below (λ class. class_entry l.granules class (fill_in l.classes class)) l.class
