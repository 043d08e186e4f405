use Rattle.std.proofs.Common.{◌≡◌, ◌+◌, ◌-◌, ◌≤◌, false, refl, arith}
use Rattle.attach_dict.proofs.Common.{with_items_is, IsPut}
use Rattle.attach_dict.specs.Roots.{IsIn}
use Rattle.attach_dict.proofs.RootSets.{set_of, some_count, fewer_set, has_fewer}
use Rattle.attach_dict.proofs.root_set.RootSet.remove.Goals as goal

pub overflow_sub-self : goal.overflow_sub-self
overflow_sub-self c =
    let s = c.self.inside in
    let put : IsPut s.bits.items c.args.root false c.put.new.words = rw c.deref_mut.ensures.value at c.put.ensures in
    let held : IsIn (set_of s.below s.bits.items s.count) c.args.root = rw (← c.self.view_is) at c.requires in
    some_count s.below s.count s.count c.args.root s.bits.items c.put.new.words false c.self.invariant put held refl

pub invariant_of-self : goal.invariant_of-self
invariant_of-self c =
    let s = c.self.inside in
    let put : IsPut s.bits.items c.args.root false c.put.new.words = rw c.deref_mut.ensures.value at c.put.ensures in
    let held : IsIn (set_of s.below s.bits.items s.count) c.args.root = rw (← c.self.view_is) at c.requires in
    let some : 1 ≤ s.count = some_count s.below s.count s.count c.args.root s.bits.items c.put.new.words false c.self.invariant put held refl in
    let fewer : s.count - 1 + 1 ≡ s.count = omega (arith, some) in
    rw (with_items_is s.bits c.put.new.words (omega (arith, put.size, s.bits.ok.0)))
    (fewer_set s.below s.count (s.count - 1) c.args.root s.bits.items c.put.new.words false c.self.invariant put held refl fewer)

pub returns : goal.returns
returns c =
    let s = c.self.inside in
    let put : IsPut s.bits.items c.args.root false c.put.new.words = rw c.deref_mut.ensures.value at c.put.ensures in
    let held : IsIn (set_of s.below s.bits.items s.count) c.args.root = rw (← c.self.view_is) at c.requires in
    let some : 1 ≤ s.count = some_count s.below s.count s.count c.args.root s.bits.items c.put.new.words false c.self.invariant put held refl in
    let fewer : s.count - 1 + 1 ≡ s.count = omega (arith, some) in
    rw (← c.self.view_is, with_items_is s.bits c.put.new.words (omega (arith, put.size, s.bits.ok.0)))
    (has_fewer s.below s.count (s.count - 1) c.args.root s.bits.items c.put.new.words false c.self.invariant put held refl fewer)
