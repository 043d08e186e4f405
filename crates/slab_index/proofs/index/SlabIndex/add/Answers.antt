use Rattle.std.proofs.Common.{◌<◌, Some, refl, sym, ◌∙◌, arith, true, set}
use Rattle.slab_index.proofs.Common.{eq-eqb, and_from, same_Some, some_if_more}
use Rattle.slab_index.proofs.Steps.{IsReplaced-set, HasOnly-none, HasOnly-some, IsIndex-filled}
use Rattle.slab_index.proofs.Views.{class_of_list, granules_of, classes_after, blocks_after}
use Rattle.slab_index.proofs.index.SlabIndex.add.Goals as goal

pub invariant_of-self : goal.invariant_of-self
invariant_of-self c =
    let s = c.self.inside in
    let class = c.args.class in
    let inside : c.args.start < s.granules = omega (arith, granules_of s.granules s.classes.items s.blocks.words.items c.self.view_is) in
    rw c.fill.ensures.some
    (IsIndex-filled (set s.classes.items c.args.start (Some class)) c.fill.new.self.words.items c.put_summed.new.set.words.items c.put_summed.new.set.some.items c.args.start class c.capacity.result _ (Some class) true c.self.invariant inside
    (IsReplaced-set s.classes.items c.args.start (Some class) (omega (arith, c.self.invariant.classes_size)))
    c.fill.ensures.words
    c.capacity.ensures.count
    (omega (arith, c.capacity.ensures.most))
    refl
    (HasOnly-none _ class (sym (class_of_list c.self.view_is c.args.start) ∙ c.requires.fresh))
    (HasOnly-some (Some class) class refl)
    (λ other e. omega (arith, same_Some class other e, c.requires.class))
    (rw c.from.ensures at c.put_summed.ensures.words)
    (sym (and_from _ _ (eq-eqb class class refl) (some_if_more c.capacity.result (omega (arith, c.capacity.ensures.least)))))
    c.put_summed.ensures.some_size
    c.put_summed.ensures.summary)

pub returns-clause-classes : goal.returns-clause-classes
returns-clause-classes c =
    let s = c.self.inside in
    classes_after s.granules c.fill.new.self.words.items c.self.view_is (IsReplaced-set s.classes.items c.args.start (Some c.args.class) (omega (arith, c.self.invariant.classes_size, granules_of s.granules s.classes.items s.blocks.words.items c.self.view_is)))

pub returns-clause-blocks : goal.returns-clause-blocks
returns-clause-blocks c =
    let s = c.self.inside in
    rw c.capacity.ensures.count at (blocks_after s.granules (set s.classes.items c.args.start (Some c.args.class)) c.self.view_is c.fill.ensures.words (omega (arith, c.capacity.ensures.most)))
