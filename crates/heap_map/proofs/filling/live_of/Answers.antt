use Rattle.std.proofs.Common.{◌∙◌, ap, arith}
use Rattle.image_tables.specs.Tables.{tables_of}
use Rattle.slab_header.specs.State.{kind_of, class_of}
use Rattle.heap_map.proofs.SlabFills.{live_of_class, no_live_bits}
use Rattle.heap_map.proofs.filling.live_of.Goals as goal

pub returns-in-Normal-clause-count : goal.returns-in-Normal-clause-count
returns-in-Normal-clause-count c =
    let kind = c.requires.of.kind ∙ ap kind_of c.in-Normal.is in
    live_of_class ((tables_of c.args.words.now).header c.args.slab.start) c.in-Normal.class c.capacity.result c.count_bits.result
    (c.requires.of.class ∙ ap class_of c.in-Normal.is) (λ morphing. omega (arith, morphing, kind)) c.capacity.ensures.count c.count_bits.ensures.count

pub returns-in-Morphing-clause-count : goal.returns-in-Morphing-clause-count
returns-in-Morphing-clause-count c = no_live_bits ((tables_of c.args.words.now).header c.args.slab.start) (c.requires.of.kind ∙ ap kind_of c.in-Morphing.is)

pub returns-in-Morphed-clause-count : goal.returns-in-Morphed-clause-count
returns-in-Morphed-clause-count c =
    let kind = c.requires.of.kind ∙ ap kind_of c.in-Morphed.is in
    live_of_class ((tables_of c.args.words.now).header c.args.slab.start) c.in-Morphed.class c.capacity-in-Morphed.result c.count_bits-in-Morphed.result
    (c.requires.of.class ∙ ap class_of c.in-Morphed.is) (λ morphing. omega (arith, morphing, kind)) c.capacity-in-Morphed.ensures.count c.count_bits-in-Morphed.ensures.count
