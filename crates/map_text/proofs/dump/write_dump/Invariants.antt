use Rattle.std.proofs.Common.{◌≡◌, ◌++◌, ◌+◌, ◌*◌}
use Rattle.map_text.specs.Pieces.{text_below}
use Rattle.map_text.specs.Dump.{dump_line}
use Rattle.map_text.proofs.dump.write_dump.Given as goal

abbrev pub invariant-loop-i : goal.invariant-loop-i
invariant-loop-i l = l.out.items ≡ l.fn.out.items ++ text_below (λ i. dump_line l.words (l.at + 16 * i)) l.i
