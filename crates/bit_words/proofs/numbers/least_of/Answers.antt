use Rattle.std.proofs.Common.{◌^◌, ◌<◌, w64, arith, refl, get_or}
use Rattle.std.specs.Int.{trailing_zeros}
use Rattle.std.proofs.lemmas.Nat.Bits.{bit_at-trailing_zeros}
use Rattle.bit_words.proofs.Bits.{least_in_word}
use Rattle.bit_words.proofs.numbers.least_of.Goals as goal

pub returns : goal.returns
returns c =
    let word = get_or c.args.words.now c.args.at 0 in
    let fits : word < 2 ^ 64 = omega (arith, c.type_inv.words c.args.at) in
    let lowest = bit_at-trailing_zeros w64 word (omega arith) fits in
    least_in_word c.args.words.now c.args.at word (trailing_zeros w64 word) refl lowest.0 lowest.1 lowest.2
