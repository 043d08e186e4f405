use Rattle.std.proofs.Common.{◌∙◌, sym, true≢false}
use Rattle.std.proofs.lemmas.Bool.{eqb-true, eq-eqb}
use Rattle.image_reading.proofs.Holding.{refuted}
use Rattle.gc_search.proofs.Standing.{gc_slab}
use Rattle.gc_map.proofs.classes.is_of_class.Goals as goal

pub returns-then-not-is_slab : goal.returns-then-not-is_slab
returns-then-not-is_slab c = refuted (λ is. true≢false (sym is.slab ∙ gc_slab c.args.words.now c.args.start ∙ sym (c.is_slab.ensures c.args.words.now c.requires.read.reads) ∙ c.if-not-is_slab.true))

pub class_of_slab-requires-clause-slab : goal.class_of_slab-requires-clause-slab
class_of_slab-requires-clause-slab c = gc_slab c.args.words.now c.args.start ∙ sym (c.is_slab.ensures c.args.words.now c.requires.read.reads) ∙ c.if-not-is_slab.false

pub returns : goal.returns
returns c =
    let slab = gc_slab c.args.words.now c.args.start ∙ sym (c.is_slab.ensures c.args.words.now c.requires.read.reads) ∙ c.if-not-is_slab.false in
    (λ is. record { slab = slab; is = sym c.class_of_slab.ensures.class ∙ eqb-true c.class_of_slab.result c.args.class is }, λ of. eq-eqb c.class_of_slab.result c.args.class (c.class_of_slab.ensures.class ∙ of.is))
