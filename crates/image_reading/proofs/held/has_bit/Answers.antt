use Rattle.std.proofs.Common.{◌∙◌}
use Rattle.image_tables.specs.Tables.{tables_of}
use Rattle.heap_check.proofs.Geometry.{number_few}
use Rattle.image_reading.proofs.Holding.{bit_by}
use Rattle.image_reading.proofs.held.has_bit.Goals as goal

pub bit_at-requires-clause-block : goal.bit_at-requires-clause-block
bit_at-requires-clause-block c = number_few c.args.class c.in-Some.number c.requires.is_class c.in-Some.ensures.below

pub returns-in-Some : goal.returns-in-Some
returns-in-Some c =
    bit_by (tables_of c.args.words.now) c.args.slab.start c.args.class c.args.at c.in-Some.number c.bit_at.result (c.requires.slab.of.class ∙ c.requires.class) c.requires.is_class c.in-Some.ensures c.bit_at.ensures
