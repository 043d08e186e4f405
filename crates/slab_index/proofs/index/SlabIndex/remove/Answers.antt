use Rattle.std.proofs.Common.{◌<◌, cond, eqb, false, None, refl, sym, ap, ◌∙◌, arith, set}
use Rattle.slab_index.proofs.Common.{le-ltb, none-some}
use Rattle.slab_index.specs.SlabSet.{is_available}
use Rattle.slab_index.proofs.Steps.{IsReplaced-set, HasOnly-none, HasOnly-some, IsIndex-filled}
use Rattle.slab_index.proofs.Views.{class_of_list, granules_of, classes_after, blocks_after}
use Rattle.slab_index.proofs.index.SlabIndex.remove.Goals as goal

pub invariant_of-self : goal.invariant_of-self
invariant_of-self c =
    let s = c.self.inside in
    let class = c.in-Some.class in
    let inside : c.args.start < s.granules = omega (arith, c.in-Some.ensures.inside, granules_of s.granules s.classes.items s.blocks.words.items c.self.view_is) in
    rw c.fill.ensures.some
    (IsIndex-filled (set s.classes.items c.args.start None) c.fill.new.self.words.items c.put_summed.new.set.words.items c.put_summed.new.set.some.items c.args.start class 0 _ None false c.self.invariant inside
    (IsReplaced-set s.classes.items c.args.start None (omega (arith, c.self.invariant.classes_size)))
    c.fill.ensures.words
    refl
    (omega arith)
    refl
    (HasOnly-some _ class (sym (class_of_list c.self.view_is c.args.start) ∙ sym c.in-Some.ensures.class))
    (HasOnly-none None class refl)
    (λ other e. absurd (none-some other e))
    (rw c.from.ensures at c.put_summed.ensures.words)
    refl
    c.put_summed.ensures.some_size
    c.put_summed.ensures.summary)

pub returns-in-Some-clause-classes : goal.returns-in-Some-clause-classes
returns-in-Some-clause-classes c =
    let s = c.self.inside in
    classes_after s.granules c.fill.new.self.words.items c.self.view_is (IsReplaced-set s.classes.items c.args.start None (omega (arith, c.in-Some.ensures.inside, c.self.invariant.classes_size, granules_of s.granules s.classes.items s.blocks.words.items c.self.view_is)))

pub returns-in-Some-clause-blocks : goal.returns-in-Some-clause-blocks
returns-in-Some-clause-blocks c = λ k i.
    blocks_after c.self.inside.granules (set c.self.inside.classes.items c.args.start None) c.self.view_is c.fill.ensures.words (omega arith) k i
    ∙ ap (λ b. cond (eqb k c.args.start) b (is_available c.args.self.now k i)) (le-ltb i 0 (omega arith))
