use Rattle.std.proofs.Common.{◌≡◌, ◌↔◌, true, ◌∙◌, ◌<◌, sym, subst, arith}
use Rattle.defect_search.proofs.Common.{class_capacity, slab_block, tables_of, IsRooted, refuted}
use Rattle.defect_search.specs.Stray.{number_in}
use Rattle.defect_search.proofs.Strays.{clear_bit, set_bit}
use Rattle.defect_search.proofs.stray.is_stray_bit.Goals as goal

pub returns-then-not-bit_of : goal.returns-then-not-bit_of
returns-then-not-bit_of c =
    refuted (clear_bit c.args.words.now c.args.slab.start c.args.word c.args.value c.args.bit c.requires.slab.at.slab c.requires.word c.requires.bit c.requires.value (sym c.bit_of.ensures ∙ c.if-not-bit_of.true))

pub returns-then-number-capacity : goal.returns-then-number-capacity
returns-then-number-capacity c = refuted (λ block.
    let small = subst (λ n. number_in c.args.word c.args.bit < class_capacity n) (c.requires.slab.of.class ∙ c.requires.class) block.below in
    omega (arith, small, c.number_in-number.ensures, c.capacity.ensures.count))

pub returns : goal.returns
returns c =
    let t = tables_of c.args.words.now in
    let named = c.number_in-number.ensures in
    set_bit c.args.words.now c.args.slab.start c.args.class c.args.word c.args.value c.args.bit c.is_stray.result c.requires.slab.at.slab (c.requires.slab.of.class ∙ c.requires.class) c.requires.word c.requires.bit c.requires.value (sym c.bit_of.ensures ∙ c.if-not-bit_of.false) (omega (arith, named, c.capacity.ensures.count))
    (subst (λ n. (c.is_stray.result ≡ true) ↔ ¬ (IsRooted t (slab_block c.args.slab.start c.args.class n))) named (c.is_stray.ensures t c.requires.blocks))
