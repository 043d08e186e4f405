use Rattle.std.proofs.Common.{◌≡◌, ◌+◌, ◌*◌, ◌∙◌, arith}
use Rattle.image_reading.proofs.Holding.{none_other}
use Rattle.image_reading.proofs.block.number_of.Goals as goal

pub returns-then-base-number : goal.returns-then-base-number
returns-then-base-number c =
    let base : c.from-base.result ≡ 16384 * c.args.start + 2048 = omega (arith, c.from-base.ensures, c.blocks_at.ensures, c.granule_at.ensures) in
    none_other c.args.start c.args.class c.args.at c.from-base.result c.from-size.result c.requires.class base (c.from-size.ensures ∙ c.size_of_class.ensures.size) c.if-base-number.true
