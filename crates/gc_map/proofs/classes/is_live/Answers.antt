use Rattle.std.proofs.Common.{subst}
use Rattle.std.proofs.lemmas.Bool.{eqb-true, eq-eqb}
use Rattle.gc_check.specs.Heap.{gc_tables}
use Rattle.gc_map.specs.Places.{IsPlaced}
use Rattle.gc_map.proofs.ClassBlocks.{live_there}
use Rattle.gc_map.proofs.classes.is_live.Goals as goal

pub returns-then-place-class : goal.returns-then-place-class
returns-then-place-class c =
    let there = subst (IsPlaced (gc_tables c.args.words.now) c.args.root) c.in-Some.is c.requires.place in
    let both = live_there c.args.words.now c.requires.sound c.args.class c.args.root c.in-Some.place there in
    (λ is. both.1 (c.if-place-class.true, eqb-true c.in-Some.place.slab_class c.args.class is), λ live. eq-eqb c.in-Some.place.slab_class c.args.class (both.0 live).1)
