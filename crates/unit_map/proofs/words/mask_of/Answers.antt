use Rattle.std.proofs.Common.{ap, ◌∙◌, arith}
use Rattle.bit_words.specs.Numbers.{ones}
use Rattle.unit_map.proofs.Masks.{mask_is}
use Rattle.unit_map.proofs.words.mask_of.Goals as goal

pub returns : goal.returns
returns c =
    mask_is c.args.at c.args.from c.args.end c.ones.result c.ones-2.result (c.ones.ensures ∙ ap ones c.saturating_sub.ensures) (c.ones-2.ensures ∙ ap ones c.saturating_sub-2.ensures) (omega (arith, c.ones-2.type_inv))
