use Rattle.std.proofs.Common.{refl, inr}
use Rattle.image_tables.specs.Tables.{tables_of}
use Rattle.image_check.proofs.blocks.check_blocks.Goals as goal

pub returns-then-is_too_many-clause-defect : goal.returns-then-is_too_many-clause-defect
returns-then-is_too_many-clause-defect c =
    let t = tables_of c.args.words.now in
    let loose = c.in-Ok-loose_things.loose in
    inr (c.in_default.ensures.tables t c.requires.claims, inr (c.in_default-stray_bit.ensures, record { loose = loose; are = c.in-Ok-loose_things.ensures; many = c.is_too_many.ensures.many.0 c.if-is_too_many.true; is = refl }))
