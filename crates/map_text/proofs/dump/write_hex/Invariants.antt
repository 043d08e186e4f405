use Rattle.std.proofs.Common.{◌≡◌, ◌∷◌, [], ◌++◌, ◌-◌, ◌*◌, ◌/◌, ◌%◌, ◌^◌}
use Rattle.map_text.specs.Pieces.{text_below}
use Rattle.map_text.specs.Dump.{hex_digit}
use Rattle.map_text.proofs.dump.write_hex.Given as goal

abbrev pub invariant-loop-i : goal.invariant-loop-i
invariant-loop-i l = l.out.items ≡ l.fn.out.items ++ text_below (λ i. hex_digit (l.number / 2 ^ (4 * (l.width - 1 - i)) % 16) ∷ []) l.i
