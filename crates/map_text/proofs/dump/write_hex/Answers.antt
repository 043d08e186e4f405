use Rattle.std.proofs.Common.{◌≡◌, ◌∷◌, [], ◌++◌, ◌-◌, ◌*◌, ◌/◌, ◌%◌, ◌^◌, ◌∙◌, ap, arith}
use Rattle.map_text.specs.Pieces.{text_below}
use Rattle.map_text.specs.Dump.{hex_digit, hex}
use Rattle.map_text.proofs.dump.write_hex.Goals as goal

pub returns : goal.returns
unfolding hex
returns c =
    let all : c.loop-i.i ≡ c.args.width = omega (arith, c.loop-i-test.false) in
    c.loop-i.invariant ∙ ap (λ n. c.args.out.now.items ++ text_below (λ i. hex_digit (c.args.number / 2 ^ (4 * (c.args.width - 1 - i)) % 16) ∷ []) n) all
