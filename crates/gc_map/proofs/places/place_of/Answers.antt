use Rattle.std.proofs.Common.{◌∙◌, ◌/◌, ℕ, sym, subst}
use Rattle.gc_check.specs.Heap.{gc_tables}
use Rattle.gc_map.specs.Places.{HasNoSlabOver, IsSlabOver}
use Rattle.gc_map.proofs.Premises.{roots_inside}
use Rattle.gc_map.proofs.Slabs.{no_small, no_slab, place_there}
use Rattle.gc_map.proofs.places.place_of.Goals as goal

pub root_word-word-requires : goal.root_word-word-requires
root_word-word-requires c = roots_inside c.args.words.now c.requires.sound

pub returns-then-class-eq0 : goal.returns-then-class-eq0
returns-then-class-eq0 c = no_small c.args.words.now c.requires.sound c.args.root c.root_word-word.result c.root_word-word.ensures (sym c.class_field_of-class.ensures ∙ c.if-class-eq0.true)

pub returns-in-None : goal.returns-in-None
returns-in-None c =
    no_slab c.args.words.now c.requires.sound c.args.root c.root_word-word.result c.root_word-word.ensures (subst (λ (at : ℕ). HasNoSlabOver (gc_tables c.args.words.now) (at / 16384)) c.address_of.ensures.field c.in-None.ensures)

pub returns-in-Some : goal.returns-in-Some
returns-in-Some c =
    place_there c.args.words.now c.requires.sound c.args.root c.root_word-word.result c.in-Some.start c.class_field_of-class.result c.class_of_slab.result c.root_word-word.ensures (sym c.class_field_of-class.ensures) c.if-class-eq0.false
    (subst (λ (at : ℕ). IsSlabOver (gc_tables c.args.words.now) (at / 16384) c.in-Some.start) c.address_of.ensures.field c.in-Some.ensures) c.class_of_slab.ensures.class
