use Rattle.std.proofs.Common.{◌∙◌, true≢false, not, ap, sym, subst}
use Rattle.std.proofs.lemmas.Bool.{eq-eqb, ne_eqb}
use Rattle.gc_check.specs.Heap.{gc_tables}
use Rattle.gc_map.specs.Places.{IsPlaced}
use Rattle.gc_map.proofs.ClassBlocks.{old_there}
use Rattle.gc_map.proofs.classes.is_old.Goals as goal

pub returns-then-place-class : goal.returns-then-place-class
returns-then-place-class c =
    let there = subst (IsPlaced (gc_tables c.args.words.now) c.args.root) c.in-Some.is c.requires.place in
    let both = old_there c.args.words.now c.requires.sound c.args.class c.args.root c.in-Some.place there in
    let slab = c.in-Some.place.slab_class in
    (λ is. both.1 (c.if-place-class.true, λ same. true≢false (sym is ∙ ap not (eq-eqb slab c.args.class same))), λ old. ap not (ne_eqb slab c.args.class (both.0 old).1))
