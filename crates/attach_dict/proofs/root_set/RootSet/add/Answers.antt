use Rattle.std.proofs.Common.{◌+◌, ◌<◌, true, refl, arith}
use Rattle.attach_dict.proofs.Common.{with_items_is, IsPut}
use Rattle.attach_dict.specs.Roots.{IsOut, IsIn}
use Rattle.attach_dict.proofs.Counts.{count_most}
use Rattle.attach_dict.proofs.RootSets.{set_of, more_set, has_more}
use Rattle.attach_dict.proofs.root_set.RootSet.add.Goals as goal

pub overflow_add-self : goal.overflow_add-self
overflow_add-self c =
    let s = c.self.inside in
    omega (arith, c.self.invariant.few, count_most (IsIn (set_of s.below s.bits.items s.count)) s.below s.count c.self.invariant.count_is)

pub invariant_of-self : goal.invariant_of-self
invariant_of-self c =
    let s = c.self.inside in
    let put : IsPut s.bits.items c.args.root true c.put.new.words = rw c.deref_mut.ensures.value at c.put.ensures in
    let low : c.args.root < s.below = rw (← c.self.view_is) at c.requires.low in
    let out : IsOut (set_of s.below s.bits.items s.count) c.args.root = rw (← c.self.view_is) at c.requires.out in
    rw (with_items_is s.bits c.put.new.words (omega (arith, put.size, s.bits.ok.0)))
    (more_set s.below s.count (s.count + 1) c.args.root s.bits.items c.put.new.words true c.self.invariant put low out refl refl)

pub returns : goal.returns
returns c =
    let s = c.self.inside in
    let put : IsPut s.bits.items c.args.root true c.put.new.words = rw c.deref_mut.ensures.value at c.put.ensures in
    let low : c.args.root < s.below = rw (← c.self.view_is) at c.requires.low in
    let out : IsOut (set_of s.below s.bits.items s.count) c.args.root = rw (← c.self.view_is) at c.requires.out in
    rw (← c.self.view_is, with_items_is s.bits c.put.new.words (omega (arith, put.size, s.bits.ok.0)))
    (has_more s.below s.count (s.count + 1) c.args.root s.bits.items c.put.new.words true c.self.invariant put low out refl refl)
