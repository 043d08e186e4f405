use Rattle.std.proofs.Common.{◌∙◌, ap, subst, sym, IsTrue, ◌↔◌}
use Rattle.image_tables.specs.Tables.{tables_of}
use Rattle.image_tables.proofs.Tables.{slab_table}
use Rattle.slab_header.specs.State.{kind_of, entries_of}
use Rattle.image_reading.specs.Held.{IsHeldBy}
use Rattle.image_reading.proofs.Holding.{held_normal, held_morphing, held_morphed-bit, held_morphed-old}
use Rattle.image_reading.proofs.held.holds.Goals as goal

pub returns-in-Normal : goal.returns-in-Normal
returns-in-Normal c =
    let words = c.args.words.now in
    let start = c.args.slab.start in
    let of = c.requires.slab.of in
    held_normal (tables_of words) start c.args.at (slab_table words start ∙ c.requires.slab.at.slab) c.has_bit.result (of.kind ∙ ap kind_of c.in-Normal.is) (of.entries ∙ ap entries_of c.in-Normal.is) c.has_bit.ensures

pub returns-in-Morphing : goal.returns-in-Morphing
returns-in-Morphing c =
    let words = c.args.words.now in
    let start = c.args.slab.start in
    held_morphing (tables_of words) start c.args.at (slab_table words start ∙ c.requires.slab.at.slab) c.has_old.result (c.requires.slab.of.kind ∙ ap kind_of c.in-Morphing.is) c.has_old.ensures

pub returns-then-has_bit : goal.returns-then-has_bit
returns-then-has_bit c =
    let words = c.args.words.now in
    let start = c.args.slab.start in
    let both = held_morphed-bit (tables_of words) start c.args.at (slab_table words start ∙ c.requires.slab.at.slab) c.has_bit-in-Morphed.result (c.requires.slab.of.kind ∙ ap kind_of c.in-Morphed.is) c.has_bit-in-Morphed.ensures c.if-has_bit.true in
    subst (λ r. IsTrue r ↔ IsHeldBy (tables_of words) start c.args.at) (sym c.if-has_bit.true) both

pub returns-else-has_bit : goal.returns-else-has_bit
returns-else-has_bit c =
    let words = c.args.words.now in
    let start = c.args.slab.start in
    held_morphed-old (tables_of words) start c.args.at (slab_table words start ∙ c.requires.slab.at.slab) c.has_bit-in-Morphed.result c.has_old-else-has_bit.result c.has_bit-in-Morphed.ensures c.has_old-else-has_bit.ensures c.if-has_bit.false
